-- `choice::bound_for` meets its contract, from whichever bound it starts.
use native.Mathlib.Omega.{arith}
use Rattle.choice.proofs.Keys.{keys_none, keys_all}
use Rattle.choice.proofs.bound_for.Goals as goal

pub lowered-requires : goal.lowered-requires
lowered-requires c =
    omega (arith, c.requires.jobs_value, keys_all c.args.policy c.args.clock c.args.r c.requires.short)

pub returns-then-rest-m : goal.returns-then-rest-m
returns-then-rest-m c =
    omega (
      arith,
      c.lowered.ensures,
      c.requires.jobs_value,
      c.requires.m_le_jobs,
      keys_all c.args.policy c.args.clock c.args.r c.requires.short,
    )

pub raised-requires-then-m-n-clause-more_bound : goal.raised-requires-then-m-n-clause-more_bound
raised-requires-then-m-n-clause-more_bound c =
    omega (arith, c.requires.jobs_value, c.requires.m_le_jobs, keys_none c.args.policy c.args.clock c.args.r)

pub returns-then-m-n : goal.returns-then-m-n
returns-then-m-n c =
    omega (arith, c.raised-then-m-n.ensures, keys_none c.args.policy c.args.clock c.args.r)
