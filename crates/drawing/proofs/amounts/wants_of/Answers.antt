-- `drawing::amounts::wants_of` meets its contract. Assumes nothing.
use Rattle.std.proofs.Common.{◌≡◌, ℕ, length, rules}
use Rattle.numbers.proofs.IndexLaws.{by_index}
use Rattle.outlet.specs.Outlets.{outlet_at}
use Rattle.drawing.proofs.amounts.wants_of.Goals as goal

pub returns : goal.returns
returns c =
    let full : length c.amounts_of.result ≡ 32 = search rules in
    by_index 32 (λ (k : ℕ). (outlet_at c.args.outlets k).want) 0 c.amounts_of.result full (λ k l. let e = c.amounts_of.ensures k l in search rules)
