-- `friction::table::FourThirds::root_of` meets its contract. Assumes nothing.
use mathlib.Core.Path.{◌≡◌, ap, ◌∙◌}
use Prim.Native.Nat.{◌≤◌, min}
use native.Mathlib.Omega.{arith}
use Rattle.friction.specs.Friction.{four_thirds, table_most}
use Rattle.friction.proofs.FrictionLaws.{four_thirds_most_lem}
use Rattle.friction.proofs.table.FourThirds.root_of.Goals as goal

pub returns : goal.returns
returns c =
    let k = c.min.result in
    let m : k ≡ min (c.args.k) table_most = omega (arith, c.min.ensures) in
    let l : k ≤ table_most = omega (arith, m) in
    let e = c.from.ensures ∙ c.args.self.now.roots.root k l in
    (e ∙ ap four_thirds m, omega (arith, e, four_thirds_most_lem k l))
