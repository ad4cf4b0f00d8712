-- Laws over specs/Accepts.
use Rattle.std.specs.Prelude.{◌≡◌, []}
use Rattle.rules.specs.Case.{Case}
use Rattle.rules.specs.Refusals.{Accepted}
use Rattle.rules.specs.Replay.{ran_at}
use Rattle.rules.specs.Answers.{result}
use Rattle.rules.specs.Log.{log_answer, own_log}
use Rattle.logs.specs.OwnSets.{own_follows}
use Rattle.logs.specs.Clear.{accepted_answer}
use Rattle.logs.specs.Exact.{follows_accepted}

-- our own log is accepted, for every accepted case and policy
pub own_log_accepted : (c : Case) → Accepted c → log_answer c (own_log c) ≡ result []
unfolding own_log
own_log_accepted c ok = accepted_answer c (own_log c) (follows_accepted c (ran_at c) ok (own_follows c c.end))
