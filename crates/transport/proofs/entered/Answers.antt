-- `transport::entered` meets its contract. Assumes nothing.
use mathlib.Core.Path.{ap₂}
use Rattle.reach.specs.declared.ledger.Totals.{Totals}
use Rattle.reach.proofs.Sound.{totals_sound, ledger_left, ledger_right}
use Rattle.transport.specs.Calls.{ledger_with}
use Rattle.transport.proofs.entered.Goals as goal

pub with_mass-requires : goal.with_mass-requires
with_mass-requires c =
    let t = totals_sound _ (ledger_left _ c.requires.0) in
    (t.total_mass_in, (t.total_mass_out, (c.requires.1.left_in, c.requires.1.left_out)))

pub with_mass-requires-2 : goal.with_mass-requires-2
with_mass-requires-2 c =
    let t = totals_sound _ (ledger_right _ c.requires.0) in
    (t.total_mass_in, (t.total_mass_out, (c.requires.1.right_in, c.requires.1.right_out)))

pub returns : goal.returns
unfolding ledger_with
returns c = ap₂ (λ (l r : Totals). record { left = l; right = r }) c.with_mass.ensures c.with_mass-2.ensures
