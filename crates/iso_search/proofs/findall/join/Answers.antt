use Rattle.std.proofs.Common.{◌+◌, ◌<◌, ◌^◌, length, refl, sym, ap, subst, arith}
use Rattle.std.proofs.lemmas.List.Elements.{All-get_or}
use Rattle.pl_term.specs.Cells.{cells}
use Rattle.iso_search.specs.declared.choices.Alternative.TheVariants.{Findall}
use Rattle.iso_search.specs.declared.choices.ChoicePoint.{ChoicePoint}
use Rattle.iso_search.specs.Collecting.{IsPutAfter, cells_held}
use Rattle.iso_search.proofs.Joining.{joined_here, none_here, nothing_joined}
use Rattle.iso_search.proofs.findall.join.Goals as goal

pub returns-then-height-len : goal.returns-then-height-len
returns-then-height-len c =
    none_here c.args.choices.now.items c.args.height c.args.copy (omega (arith, c.if-height-len.true, c.len.ensures, c.args.choices.now.ok.0))

pub overflow_add-found : goal.overflow_add-found
overflow_add-found c =
    let items = c.args.choices.now.items in
    let k = c.index_mut.result.now in
    let lt : c.args.height < length items = omega (arith, c.if-height-len.false, c.len.ensures, c.args.choices.now.ok.0) in
    let P : ChoicePoint → Type 0 = λ x. cells_held x.alternative + cells c.args.copy.term < 2 ^ 64 in
    let here = subst P (sym c.index_mut.ensures.value) (All-get_or P items c.args.height k lt c.requires) in
    let found = subst (λ a. cells_held a + cells c.args.copy.term < 2 ^ 64) c.in-Findall.is here in
    omega (arith, found, c.cells.ensures)

pub returns-in_ok-push-in-Findall : goal.returns-in_ok-push-in-Findall
returns-in_ok-push-in-Findall c =
    let items = c.args.choices.now.items in
    let k = c.index_mut.result.now in
    let lt : c.args.height < length items = omega (arith, c.if-height-len.false, c.len.ensures, c.args.choices.now.ok.0) in
    let is = Findall c.in-Findall.list (record { copies = c.push.new.self; cells = c.in-Findall.found.cells + c.cells.result }) in
    joined_here items c.args.height k lt c.index_mut.ensures.value c.args.copy is
    (subst (λ a. IsPutAfter c.args.copy a is) (sym c.in-Findall.is)
    (refl, (c.in_ok-push-in-Findall.ensures.items, ap (λ n. c.in-Findall.found.cells + n) c.cells.ensures)))

pub returns-in_default : goal.returns-in_default
returns-in_default c =
    let items = c.args.choices.now.items in
    let k = c.index_mut.result.now in
    let lt : c.args.height < length items = omega (arith, c.if-height-len.false, c.len.ensures, c.args.choices.now.ok.0) in
    nothing_joined items c.args.height k lt c.index_mut.ensures.value c.args.copy c.in_default.not-Findall
