-- Document 01, 'Grounds for refusal, in checking order', and document 02's 16 and 17: the paper's number of each.
use Rattle.std.specs.Prelude.{ℕ}
use Rattle.reach.specs.declared.refusal.Refusal.{Refusal}
use Rattle.reach.specs.declared.refusal.Refusal.TheVariants as refusal

abbrev pub number : Refusal → ℕ
number refusal.Edition = 1
number refusal.Size = 2
number refusal.Layout = 3
number refusal.Lengths = 4
number refusal.CellLength = 5
number refusal.Boundaries = 6
number refusal.Values = 7
number refusal.Carried = 8
number refusal.Ledger = 9
number refusal.TimeStep = 10
number refusal.Cfl = 11
number refusal.Depth = 12
number refusal.Total = 13
number refusal.NotTransported = 14
number refusal.ShortOutput = 15
number refusal.Outlets = 16
number refusal.Strickler = 17
