-- `outlet::load` meets its contract. Assumes nothing.
use Rattle.std.proofs.Common.{List, length, replicate, ◌≡◌, ◌∙◌, ap, arith, rules}
use Rattle.outlet.specs.declared.Outlet.{Outlet}
use Rattle.outlet.specs.declared.Outlets.{Outlets}
use Rattle.outlet.specs.Outlets.{no_outlet, over}
use Rattle.outlet.proofs.LentLaws.{copied_over}
use Rattle.outlet.proofs.load.Goals as goal

pub returns : goal.returns
returns c =
    let os = c.args.list.now in
    let none : c.default-room.result ≡ no_outlet = search rules in
    ap {B = Outlets} (λ (l : List Outlet). record { count = length os; list = l })
    (copied_over os _ c.copy_from_slice.new.self c.min-n.result (omega arith) c.copy_from_slice.ensures.after
    ∙ ap (λ (o : Outlet). over os (replicate 32 o)) none)
