-- `text::Writer::decimal` meets its contract: `Written` says how many digits are put. Assumes nothing.
use mathlib.Core.Path.{◌≡◌, refl, ap, ◌∙◌}
use Prim.Native.Nat.{ℕ, ◌+◌, ◌-◌, ◌/◌, ◌%◌}
use native.Mathlib.Omega.{arith}
use lib.ListN.{length, take, drop}
use Rattle.numbers.proofs.IndexLaws.{written_more}
use Rattle.text.proofs.TextLaws.{power_some, unit_down, decimal_long, decimal_done, part_long, put_part}
use Rattle.text.proofs.Writer.decimal.Goals as goal
use Rattle.text.proofs.Writer.decimal.Goals.{After-digits_of-count}

-- as many bytes are lent as there are digits
lent : (c : After-digits_of-count) → let n = c.digits_of-count.result.count in
    length (take (c.args.self.now.at + n - c.args.self.now.at) (drop c.args.self.now.at c.args.self.now.out.now)) ≡ n
lent c = part_long c.args.self.now.out.now c.args.self.now.at _ (omega (arith, c.digits_of-count.ensures.1.1))

pub digit-requires : goal.digit-requires
digit-requires c =
    let e = lent (goal.at.digit-requires c).After-digits_of-count in
    rw (c.loop-byte.invariant.0 (omega (arith, e))) (power_some _)

pub loop-byte-preserved : goal.loop-byte-preserved
loop-byte-preserved c =
    let l = c.loop-byte in
    let n = c.args.n in
    let e = l.invariant.0 (omega (arith, lent (goal.at.loop-byte-preserved c).After-digits_of-count)) in (
      λ m. unit_down _ l.byte-index l.unit e m,
      written_more _ _ _ l.byte-index _ _ l.invariant.1 (omega arith) (c.digit.ensures ∙ ap (λ (u : ℕ). 48 + n / u % 10) e),
    )

pub returns-clause-adds : goal.returns-clause-adds
returns-clause-adds c =
    let l = c.loop-byte in
    let d = c.digits_of-count in
    let e = lent (goal.at.returns-clause-adds c).After-digits_of-count in
    let s = decimal_done c.args.n d.result.count l.byte-index _ l.byte-items d.ensures.0 e (omega (arith, e)) l.invariant.1 in
    record {
      same = refl;
      next_is = omega (arith, d.ensures.0, decimal_long c.args.n);
      put = rw s (put_part _ _ c.args.self.now.at _ (omega (arith, d.ensures.0, decimal_long c.args.n)) (omega (arith, d.ensures.1.1)));
    }
