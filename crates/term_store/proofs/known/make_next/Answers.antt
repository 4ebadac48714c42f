use Rattle.std.proofs.Common.{◌≡◌, ◌+◌, ◌∷◌, [], ◌++◌, length, refl, sym, ap, subst, ◌∙◌}
use Rattle.term_store.specs.declared.words.Word.TheVariants.{Var}
use Rattle.term_store.specs.Cells.{heap_of}
use Rattle.term_store.specs.Entering.{Meets}
use Rattle.term_store.specs.Making.{with_number}
use Rattle.term_store.proofs.Knowing.{longer_same, meets_new, new_means}
use Rattle.term_store.proofs.Loading.{longer_numbers}
use Rattle.term_store.proofs.known.make_next.Goals as goal

pub returns-in_err-slot-clause-longer : goal.returns-in_err-slot-clause-longer
returns-in_err-slot-clause-longer c = let h = heap_of c.args.cells.now in longer_same h h refl

pub returns-in_err-reserve-clause-longer : goal.returns-in_err-reserve-clause-longer
returns-in_err-reserve-clause-longer c = let h = heap_of c.args.cells.now in longer_same h h refl

pub returns-in_err-make_variable-clause-longer : goal.returns-in_err-make_variable-clause-longer
returns-in_err-make_variable-clause-longer c =
    longer_same (heap_of c.args.cells.now) (heap_of c.make_variable.new.cells) c.in_err-make_variable.ensures.kept

pub returns-clause-longer : goal.returns-clause-longer
returns-clause-longer c =
    longer_numbers (heap_of c.args.cells.now) (heap_of c.make_variable.new.cells) ((c.args.from + c.len.result) ∷ []) c.in_ok-make_variable.ensures.made

pub returns-clause-meets : goal.returns-clause-meets
returns-clause-meets c =
    let h = heap_of c.args.cells.now in
    let d = heap_of c.make_variable.new.cells in
    let ws = c.args.known.now.items in
    let w = Var c.in_ok-slot.slot in
    let made : d ≡ with_number h (c.args.from + length ws) =
    c.in_ok-make_variable.ensures.made ∙ ap (λ k. with_number h (c.args.from + k)) c.len.ensures in
    let is : w ≡ Var (length h.numbers) = ap Var (c.in_ok-slot.ensures ∙ c.len-2.ensures ∙ c.args.cells.now.numbers.ok.0) in
    subst (λ after. Meets h c.args.from ws [] d after) (sym (c.push_short.ensures.items ∙ ap (λ vs. vs ++ w ∷ []) c.in_ok-reserve.ensures.items))
    (meets_new h d c.args.from ws w c.requires.fit.fit c.requires.known made
    (new_means h d (c.args.from + length ws) w c.requires.fit.fit c.make_variable.ensures.fit.fit made is))
