-- The case is accepted, so it has free counts.
use Rattle.legal.specs.Legal.{accepted_procs, accepted_table}
use Rattle.program.proofs.judge_file.Goals as goal

pub free_counts-free-requires : goal.free_counts-free-requires
free_counts-free-requires g c =
    let ok = rw (← c.case.view_is) at c.accepted.invariant in
    (accepted_table _ ok, accepted_procs _ ok)
