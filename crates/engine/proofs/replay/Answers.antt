-- `engine::replay` meets its contract: a refusal leaves the room, else the records are in it and the totals are theirs.
use Rattle.std.proofs.Common.{ap, sym, ◌∙◌}
use Rattle.std.proofs.lemmas.Result.{err_from_is_err_and}
use Rattle.rules.specs.Answers.{result}
use Rattle.rules.specs.Calls.{replay_answer, replay_room}
use Rattle.legal.specs.Firsts.{clear_checked, given_clear, given_fault}
use Rattle.legal.specs.Legal.{replay_clear}
use Rattle.legal.specs.Settled.{refuses_with, leaves_with, settles_with, puts_with}
use Rattle.engine.proofs.replay.Goals as goal

pub returns-in_err-accepted : goal.returns-in_err-accepted
unfolding replay_answer replay_room
returns-in_err-accepted c =
    let p = err_from_is_err_and c.from_residual.result c.from_residual.ensures.1 in
    let e = given_fault _ _ _ (sym c.accept_replay.ensures ∙ c.in_err-accepted.was) in
    rw (p.1, p.2) (record { answer = refuses_with _ _ _ e; left = leaves_with _ _ _ _ e })

pub replay_run-requires : goal.replay_run-requires
replay_run-requires c =
    let given = given_clear _ _ _ (sym c.accept_replay.ensures ∙ c.in_ok-accepted.was) in
    rw (← given.1) (replay_clear _ _ (clear_checked _ given.0)).1

pub returns : goal.returns
unfolding replay_answer replay_room
returns c =
    let given = given_clear _ _ _ (sym c.accept_replay.ensures ∙ c.in_ok-accepted.was) in
    let run = rw (← given.1) at c.replay_run.ensures in
    record {
      answer = ap result run.totals ∙ settles_with _ _ given.0;
      left = run.records ∙ puts_with _ _ _ given.0;
    }
