-- `drawing::amounts::drawn_of` meets its contract. Assumes nothing.
use Rattle.std.proofs.Common.{◌≡◌, ℕ, min, length, rules}
use Rattle.numbers.proofs.IndexLaws.{by_index}
use Rattle.outlet.specs.Outlets.{outlet_at}
use Rattle.drawing.proofs.amounts.drawn_of.Goals as goal

pub returns : goal.returns
returns c =
    let full : length c.amounts_of.result ≡ 32 = search rules in
    by_index 32 (λ (k : ℕ). min (outlet_at c.args.outlets k).drawn 4_000_001) 0 c.amounts_of.result full (λ k l. let e = c.amounts_of.ensures k l in search rules)
