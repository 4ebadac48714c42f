use Rattle.std.proofs.Common.{codes, refl, sym, ap, subst, arith}
use Rattle.std.specs.Prelude.{is_some, not}
use Rattle.pl_term.specs.Order.{order}
use Rattle.pl_model.specs.AtomBuiltins.{as_character, character_error, character_in, code_error, codes_character, measures, number, spells, spells_number}
use Rattle.pl_model.specs.BuiltinRows.{comparison, one_answer, test, test_row}
use Rattle.pl_model.specs.Checks.{natural_of}
use Rattle.pl_model.specs.History.{proc}
use Rattle.pl_model.specs.TermBuiltins.{compares_values, copies, evaluates, lists_variables, merges, sorts, sorts_by_key, subsumes, two, univ}
use Rattle.pl_model.specs.Unify.{unify}
use Rattle.atom_api.specs.Names.{Names}
use Rattle.world_api.proofs.Gaining.{gains_nothing, gains_weaker}
use Rattle.world_builtins.specs.Spelling.{reads}
use Rattle.builtin_rows.specs.declared.predicates.Pred.TheVariants.{Two}
use Rattle.builtin_rows.specs.declared.predicates.OfTwo.TheVariants as of_two
use Rattle.builtin_rows.specs.Predicates.{name_of_terms}
use Rattle.builtin_rows.specs.Lists.{IsNaming}
use Rattle.builtin_term.specs.TestRows.{AreNames}
use Rattle.builtin_arithmetic.specs.Texts as values
use Rattle.builtin_arithmetic.specs.Comparing.{holds_by}
use Rattle.builtin_rows.specs.Dispatching.{Does}
use Rattle.builtin_rows.proofs.Answering.{interned, ok_weaker, same_holds, settled, settles}
use Rattle.iso_engine.proofs.Dispatched.{answers_do}
use Rattle.iso_engine.proofs.Defined.{atom_chars_defined, atom_codes_defined, codes_defined, copies_defined, equal_defined, evaluates_defined, keysorts_defined, measures_defined, merges_defined, not_unifiable_defined, number_chars_defined, number_codes_defined, occurs_defined, sorts_defined, subsumes_defined, terms_defined, univ_defined, values_defined, variables_defined}
use Rattle.iso_engine.proofs.dispatch.two.row_of_two.Goals as goal

pub returns-in-Equal : goal.returns-in-Equal
returns-in-Equal g c =
    let s = c.args.store.now in
    let m = g.A.Atoms.held c.args.atoms.now in
    let t = reads m s c.args.first in
    let u = reads m s c.args.second in
    let next = c.args.next in
    let refused = g.A.Atoms.refusals c.args.atoms.now in
    let asked = g.A.Atoms.asked c.args.atoms.now in
    settled s c.unifies.new.store (Two c.args.pred) (Two of_two.Equal) (two t u) next m m refused refused asked asked
    (one_answer (two u u)) c.unifies.result
    (ap Two c.in-Equal.is) (equal_defined t u next) refl refl refl
    (ok_weaker _ _ c.unifies.result c.unifies.ensures.row (λ r h. h m (two t u) c.requires.second_held (proc (codes "=") 2) next (omega arith)))
    c.unifies.ensures.refuses c.unifies.ensures.single

pub returns-in-UnifyWithOccursCheck : goal.returns-in-UnifyWithOccursCheck
returns-in-UnifyWithOccursCheck g c =
    let s = c.args.store.now in
    let m = g.A.Atoms.held c.args.atoms.now in
    let t = reads m s c.args.first in
    let u = reads m s c.args.second in
    let next = c.args.next in
    let refused = g.A.Atoms.refusals c.args.atoms.now in
    let asked = g.A.Atoms.asked c.args.atoms.now in
    settled s c.unifies-in-UnifyWithOccursCheck.new.store (Two c.args.pred) (Two of_two.UnifyWithOccursCheck) (two t u) next m m refused refused asked asked
    (one_answer (two u u)) c.unifies-in-UnifyWithOccursCheck.result
    (ap Two c.in-UnifyWithOccursCheck.is) (occurs_defined t u next) refl refl refl
    (ok_weaker _ _ c.unifies-in-UnifyWithOccursCheck.result c.unifies-in-UnifyWithOccursCheck.ensures.row
    (λ r h. h m (two t u) c.requires.second_held (proc (codes "unify_with_occurs_check") 2) next (omega arith)))
    c.unifies-in-UnifyWithOccursCheck.ensures.refuses c.unifies-in-UnifyWithOccursCheck.ensures.single

pub returns-in-NotUnifiable : goal.returns-in-NotUnifiable
returns-in-NotUnifiable g c =
    let s = c.args.store.now in
    let m = g.A.Atoms.held c.args.atoms.now in
    let t = reads m s c.args.first in
    let u = reads m s c.args.second in
    let next = c.args.next in
    let names : AreNames m =
    record {
      fixed = g.met.A.Atoms.fixed_held c.args.atoms.now;
      unlike = g.met.A.Atoms.unlike c.args.atoms.now;
      texts = λ a x e. (g.met.A.Atoms.finite c.args.atoms.now a x e).2;
    } in
    let refused = g.A.Atoms.refusals c.args.atoms.now in
    let asked = g.A.Atoms.asked c.args.atoms.now in
    settled s c.not_unifiable.new.store (Two c.args.pred) (Two of_two.NotUnifiable) (two t u) next m m refused refused asked asked
    (test (not (is_some (unify t u))) (two t u)) c.not_unifiable.result
    (ap Two c.in-NotUnifiable.is) (not_unifiable_defined t u next) refl refl refl
    (ok_weaker _ _ c.not_unifiable.result c.not_unifiable.ensures.row (λ r h. h m (two t u) names (proc (codes "\\=") 2) next (omega arith)))
    c.not_unifiable.ensures.refuses c.not_unifiable.ensures.single

pub returns-in-SubsumesTerm : goal.returns-in-SubsumesTerm
returns-in-SubsumesTerm g c =
    let s = c.args.store.now in
    let m = g.A.Atoms.held c.args.atoms.now in
    let t = reads m s c.args.first in
    let u = reads m s c.args.second in
    let next = c.args.next in
    let names : AreNames m =
    record {
      fixed = g.met.A.Atoms.fixed_held c.args.atoms.now;
      unlike = g.met.A.Atoms.unlike c.args.atoms.now;
      texts = λ a x e. (g.met.A.Atoms.finite c.args.atoms.now a x e).2;
    } in
    let refused = g.A.Atoms.refusals c.args.atoms.now in
    let asked = g.A.Atoms.asked c.args.atoms.now in
    settled s c.subsumes_term.new.store (Two c.args.pred) (Two of_two.SubsumesTerm) (two t u) next m m refused refused asked asked
    (subsumes t u) c.subsumes_term.result
    (ap Two c.in-SubsumesTerm.is) (subsumes_defined t u next) refl refl refl
    (ok_weaker _ _ c.subsumes_term.result c.subsumes_term.ensures.row (λ r h. h m names (proc (codes "subsumes_term") 2) next (omega arith)))
    c.subsumes_term.ensures.refuses c.subsumes_term.ensures.single

pub returns-in-CopyTerm : goal.returns-in-CopyTerm
returns-in-CopyTerm g c =
    let s = c.args.store.now in
    let m = g.A.Atoms.held c.args.atoms.now in
    let t = reads m s c.args.first in
    let u = reads m s c.args.second in
    let next = c.args.next in
    let refused = g.A.Atoms.refusals c.args.atoms.now in
    let asked = g.A.Atoms.asked c.args.atoms.now in
    settled s c.copy_term.new.store (Two c.args.pred) (Two of_two.CopyTerm) (two t u) next m m refused refused asked asked
    (copies next t u) c.copy_term.result
    (ap Two c.in-CopyTerm.is) (copies_defined t u next) refl refl refl
    (ok_weaker _ _ c.copy_term.result c.copy_term.ensures.row
    (λ r h. h m u (g.met.A.Atoms.fixed_held c.args.atoms.now) c.requires.first_held (two t u)))
    c.copy_term.ensures.refuses c.copy_term.ensures.single

pub returns-in-TermVariables : goal.returns-in-TermVariables
returns-in-TermVariables g c =
    let s = c.args.store.now in
    let m = g.A.Atoms.held c.args.atoms.now in
    let t = reads m s c.args.first in
    let u = reads m s c.args.second in
    let next = c.args.next in
    let texts : IsNaming m =
    record { stands = g.met.A.Atoms.fixed_held c.args.atoms.now; unlike = g.met.A.Atoms.unlike c.args.atoms.now } in
    let refused = g.A.Atoms.refusals c.args.atoms.now in
    let asked = g.A.Atoms.asked c.args.atoms.now in
    settled s c.term_variables.new.store (Two c.args.pred) (Two of_two.TermVariables) (two t u) next m m refused refused asked asked
    (lists_variables t u) c.term_variables.result
    (ap Two c.in-TermVariables.is) (variables_defined t u next) refl refl refl
    (ok_weaker _ _ c.term_variables.result c.term_variables.ensures.row (λ r h. h m texts c.requires.first_held c.requires.second_held (two t u)))
    c.term_variables.ensures.refuses c.term_variables.ensures.single

pub returns-in-Sort : goal.returns-in-Sort
returns-in-Sort g c =
    let s = c.args.store.now in
    let m = g.A.Atoms.held c.args.atoms.now in
    let t = reads m s c.args.first in
    let u = reads m s c.args.second in
    let next = c.args.next in
    let refused = g.A.Atoms.refusals c.args.atoms.now in
    let asked = g.A.Atoms.asked c.args.atoms.now in
    settled s c.sort.new.store (Two c.args.pred) (Two of_two.Sort) (two t u) next m (g.A.Atoms.held c.sort.new.atoms) refused (g.A.Atoms.refusals c.sort.new.atoms) asked (g.A.Atoms.asked c.sort.new.atoms)
    (sorts t) c.sort.result
    (ap Two c.in-Sort.is) (sorts_defined t u next) c.sort.ensures.same c.sort.ensures.refusals c.sort.ensures.asked
    (ok_weaker _ _ c.sort.result c.sort.ensures.row (λ r h. h (two t u))) c.sort.ensures.refuses c.sort.ensures.single

pub returns-in-Msort : goal.returns-in-Msort
returns-in-Msort g c =
    let s = c.args.store.now in
    let m = g.A.Atoms.held c.args.atoms.now in
    let t = reads m s c.args.first in
    let u = reads m s c.args.second in
    let next = c.args.next in
    let refused = g.A.Atoms.refusals c.args.atoms.now in
    let asked = g.A.Atoms.asked c.args.atoms.now in
    settled s c.msort.new.store (Two c.args.pred) (Two of_two.Msort) (two t u) next m (g.A.Atoms.held c.msort.new.atoms) refused (g.A.Atoms.refusals c.msort.new.atoms) asked (g.A.Atoms.asked c.msort.new.atoms)
    (merges t) c.msort.result
    (ap Two c.in-Msort.is) (merges_defined t u next) c.msort.ensures.same c.msort.ensures.refusals c.msort.ensures.asked
    (ok_weaker _ _ c.msort.result c.msort.ensures.row (λ r h. h (two t u))) c.msort.ensures.refuses c.msort.ensures.single

pub returns-in-Keysort : goal.returns-in-Keysort
returns-in-Keysort g c =
    let s = c.args.store.now in
    let m = g.A.Atoms.held c.args.atoms.now in
    let t = reads m s c.args.first in
    let u = reads m s c.args.second in
    let next = c.args.next in
    let refused = g.A.Atoms.refusals c.args.atoms.now in
    let asked = g.A.Atoms.asked c.args.atoms.now in
    settled s c.keysort.new.store (Two c.args.pred) (Two of_two.Keysort) (two t u) next m (g.A.Atoms.held c.keysort.new.atoms) refused (g.A.Atoms.refusals c.keysort.new.atoms) asked (g.A.Atoms.asked c.keysort.new.atoms)
    (sorts_by_key t) c.keysort.result
    (ap Two c.in-Keysort.is) (keysorts_defined t u next) c.keysort.ensures.same c.keysort.ensures.refusals c.keysort.ensures.asked
    (ok_weaker _ _ c.keysort.result c.keysort.ensures.row (λ r h. h (two t u))) c.keysort.ensures.refuses c.keysort.ensures.single

pub returns-in-Univ : goal.returns-in-Univ
returns-in-Univ g c =
    let s = c.args.store.now in
    let m = g.A.Atoms.held c.args.atoms.now in
    let t = reads m s c.args.first in
    let u = reads m s c.args.second in
    let next = c.args.next in
    let naming : IsNaming m =
    record { stands = g.met.A.Atoms.fixed_held c.args.atoms.now; unlike = g.met.A.Atoms.unlike c.args.atoms.now } in
    let refused = g.A.Atoms.refusals c.args.atoms.now in
    let asked = g.A.Atoms.asked c.args.atoms.now in
    settled s c.univ.new.store (Two c.args.pred) (Two of_two.Univ) (two t u) next m m refused refused asked asked (univ t u) c.univ.result
    (ap Two c.in-Univ.is) (univ_defined t u next) refl refl refl
    (ok_weaker _ _ c.univ.result c.univ.ensures.row (λ r h. h m naming c.requires.first_held c.requires.second_held (two t u)))
    c.univ.ensures.refuses c.univ.ensures.single

pub returns-in-Is : goal.returns-in-Is
returns-in-Is g c =
    let s = c.args.store.now in
    let m = g.A.Atoms.held c.args.atoms.now in
    let t = reads m s c.args.first in
    let u = reads m s c.args.second in
    let next = c.args.next in
    let texts : values.AreTexts m =
    record { stand = g.met.A.Atoms.fixed_held c.args.atoms.now; unlike = g.met.A.Atoms.unlike c.args.atoms.now } in
    let refused = g.A.Atoms.refusals c.args.atoms.now in
    let asked = g.A.Atoms.asked c.args.atoms.now in
    settled s c.evaluate.new.store (Two c.args.pred) (Two of_two.Is) (two t u) next m m refused refused asked asked
    (evaluates t u) c.evaluate.result
    (ap Two c.in-Is.is) (evaluates_defined t u next) refl refl refl
    (ok_weaker _ _ c.evaluate.result c.evaluate.ensures.row (λ r h. h m t texts c.requires.second_held next (omega arith)))
    c.evaluate.ensures.refuses c.evaluate.ensures.single

pub returns-in-AtomLength : goal.returns-in-AtomLength
returns-in-AtomLength g c =
    let s = c.args.store.now in
    let m = g.A.Atoms.held c.args.atoms.now in
    let t = reads m s c.args.first in
    let u = reads m s c.args.second in
    let next = c.args.next in
    let refused = g.A.Atoms.refusals c.args.atoms.now in
    let asked = g.A.Atoms.asked c.args.atoms.now in
    interned s c.atom_length.new.store (Two c.args.pred) (Two of_two.AtomLength) (two t u) next m (g.A.Atoms.held c.atom_length.new.atoms) refused (g.A.Atoms.refusals c.atom_length.new.atoms) asked (g.A.Atoms.asked c.atom_length.new.atoms)
    (measures t u) c.atom_length.result
    (ap Two c.in-AtomLength.is) (measures_defined t u next) (same_holds m (g.A.Atoms.held c.atom_length.new.atoms) c.atom_length.ensures.same) c.atom_length.ensures.refusals
    (gains_nothing _ _ _ c.atom_length.ensures.asked)
    (ok_weaker _ _ c.atom_length.result c.atom_length.ensures.row (λ r h. h next (omega arith))) c.atom_length.ensures.single

pub returns-in-AtomChars : goal.returns-in-AtomChars
returns-in-AtomChars g c =
    let s = c.args.store.now in
    let m = g.A.Atoms.held c.args.atoms.now in
    let t = reads m s c.args.first in
    let u = reads m s c.args.second in
    let next = c.args.next in
    let refused = g.A.Atoms.refusals c.args.atoms.now in
    let asked = g.A.Atoms.asked c.args.atoms.now in
    interned s c.atom_chars.new.store (Two c.args.pred) (Two of_two.AtomChars) (two t u) next m (g.A.Atoms.held c.atom_chars.new.atoms) refused (g.A.Atoms.refusals c.atom_chars.new.atoms) asked (g.A.Atoms.asked c.atom_chars.new.atoms)
    (spells character_error character_in as_character t u) c.atom_chars.result
    (ap Two c.in-AtomChars.is) (atom_chars_defined t u next) c.atom_chars.ensures.holds c.atom_chars.ensures.refusals
    (gains_weaker _ _ _ _ (λ x h. h next (omega arith)) c.atom_chars.ensures.asked)
    (ok_weaker _ _ c.atom_chars.result c.atom_chars.ensures.row (λ r h. h next (omega arith))) c.atom_chars.ensures.single

pub returns-in-AtomCodes : goal.returns-in-AtomCodes
returns-in-AtomCodes g c =
    let s = c.args.store.now in
    let m = g.A.Atoms.held c.args.atoms.now in
    let t = reads m s c.args.first in
    let u = reads m s c.args.second in
    let next = c.args.next in
    let refused = g.A.Atoms.refusals c.args.atoms.now in
    let asked = g.A.Atoms.asked c.args.atoms.now in
    interned s c.atom_codes.new.store (Two c.args.pred) (Two of_two.AtomCodes) (two t u) next m (g.A.Atoms.held c.atom_codes.new.atoms) refused (g.A.Atoms.refusals c.atom_codes.new.atoms) asked (g.A.Atoms.asked c.atom_codes.new.atoms)
    (spells code_error natural_of number t u) c.atom_codes.result
    (ap Two c.in-AtomCodes.is) (atom_codes_defined t u next) c.atom_codes.ensures.holds c.atom_codes.ensures.refusals
    (gains_weaker _ _ _ _ (λ x h. h next (omega arith)) c.atom_codes.ensures.asked)
    (ok_weaker _ _ c.atom_codes.result c.atom_codes.ensures.row (λ r h. h next (omega arith))) c.atom_codes.ensures.single

pub returns-in-CharCode : goal.returns-in-CharCode
returns-in-CharCode g c =
    let s = c.args.store.now in
    let m = g.A.Atoms.held c.args.atoms.now in
    let t = reads m s c.args.first in
    let u = reads m s c.args.second in
    let next = c.args.next in
    let refused = g.A.Atoms.refusals c.args.atoms.now in
    let asked = g.A.Atoms.asked c.args.atoms.now in
    interned s c.char_code.new.store (Two c.args.pred) (Two of_two.CharCode) (two t u) next m (g.A.Atoms.held c.char_code.new.atoms) refused (g.A.Atoms.refusals c.char_code.new.atoms) asked (g.A.Atoms.asked c.char_code.new.atoms)
    (codes_character t u) c.char_code.result
    (ap Two c.in-CharCode.is) (codes_defined t u next) c.char_code.ensures.holds c.char_code.ensures.refusals
    (gains_weaker _ _ _ _ (λ x h. h next (omega arith)) c.char_code.ensures.asked)
    (ok_weaker _ _ c.char_code.result c.char_code.ensures.row (λ r h. h next (omega arith))) c.char_code.ensures.single

pub returns-in-NumberChars : goal.returns-in-NumberChars
returns-in-NumberChars g c =
    let s = c.args.store.now in
    let m = g.A.Atoms.held c.args.atoms.now in
    let t = reads m s c.args.first in
    let u = reads m s c.args.second in
    let next = c.args.next in
    let refused = g.A.Atoms.refusals c.args.atoms.now in
    let asked = g.A.Atoms.asked c.args.atoms.now in
    interned s c.number_chars.new.store (Two c.args.pred) (Two of_two.NumberChars) (two t u) next m (g.A.Atoms.held c.number_chars.new.atoms) refused (g.A.Atoms.refusals c.number_chars.new.atoms) asked (g.A.Atoms.asked c.number_chars.new.atoms)
    (spells_number character_error character_in as_character t u) c.number_chars.result
    (ap Two c.in-NumberChars.is) (number_chars_defined t u next) c.number_chars.ensures.holds c.number_chars.ensures.refusals
    (gains_weaker _ _ _ _ (λ x h. h next (omega arith)) c.number_chars.ensures.asked)
    (ok_weaker _ _ c.number_chars.result c.number_chars.ensures.row (λ r h. h next (omega arith))) c.number_chars.ensures.single

pub returns-in-NumberCodes : goal.returns-in-NumberCodes
returns-in-NumberCodes g c =
    let s = c.args.store.now in
    let m = g.A.Atoms.held c.args.atoms.now in
    let t = reads m s c.args.first in
    let u = reads m s c.args.second in
    let next = c.args.next in
    let refused = g.A.Atoms.refusals c.args.atoms.now in
    let asked = g.A.Atoms.asked c.args.atoms.now in
    interned s c.number_codes.new.store (Two c.args.pred) (Two of_two.NumberCodes) (two t u) next m (g.A.Atoms.held c.number_codes.new.atoms) refused (g.A.Atoms.refusals c.number_codes.new.atoms) asked (g.A.Atoms.asked c.number_codes.new.atoms)
    (spells_number code_error natural_of number t u) c.number_codes.result
    (ap Two c.in-NumberCodes.is) (number_codes_defined t u next) c.number_codes.ensures.holds c.number_codes.ensures.refusals
    (gains_weaker _ _ _ _ (λ x h. h next (omega arith)) c.number_codes.ensures.asked)
    (ok_weaker _ _ c.number_codes.result c.number_codes.ensures.row (λ r h. h next (omega arith))) c.number_codes.ensures.single

pub returns-in-Values : goal.returns-in-Values
returns-in-Values g c =
    let s = c.args.store.now in
    let m = g.A.Atoms.held c.args.atoms.now in
    let t = reads m s c.args.first in
    let u = reads m s c.args.second in
    let next = c.args.next in
    let texts : values.AreTexts m =
    record { stand = g.met.A.Atoms.fixed_held c.args.atoms.now; unlike = g.met.A.Atoms.unlike c.args.atoms.now } in
    let by = c.in-Values.by in
    let refused = g.A.Atoms.refusals c.args.atoms.now in
    let asked = g.A.Atoms.asked c.args.atoms.now in
    settled s c.compare_values.new.store (Two c.args.pred) (Two (of_two.Values by)) (two t u) next m m refused refused asked asked
    (compares_values (holds_by by) t u) c.compare_values.result
    (ap Two c.in-Values.is) (values_defined t u next by) refl refl refl
    (ok_weaker _ _ c.compare_values.result c.compare_values.ensures.row
    (λ r h. h m texts c.requires.first_held c.requires.second_held next (omega arith))) c.compare_values.ensures.refuses c.compare_values.ensures.single

pub returns-in-Terms : goal.returns-in-Terms
returns-in-Terms g c =
    let s = c.args.store.now in
    let m = g.A.Atoms.held c.args.atoms.now in
    let t = reads m s c.args.first in
    let u = reads m s c.args.second in
    let next = c.args.next in
    let v = c.comparison.new.store in
    let by = c.in-Terms.by in
    let result = c.comparison.result in
    let refused = g.A.Atoms.refusals c.args.atoms.now in
    let asked = g.A.Atoms.asked c.args.atoms.now in
    settles s v (Two c.args.pred) (two t u) next m (g.A.Atoms.held c.comparison.new.atoms) refused (g.A.Atoms.refusals c.comparison.new.atoms) asked (g.A.Atoms.asked c.comparison.new.atoms)
    result c.comparison.ensures.same c.comparison.ensures.refusals c.comparison.ensures.asked
    (subst (λ (k : Names). Does s next (Two c.args.pred) (two t u) k v result) (sym c.comparison.ensures.same)
    (subst (λ p. Does s next (Two p) (two t u) m v result) (sym c.in-Terms.is)
    (answers_do s v (Two (of_two.Terms by)) (two t u) next m (test_row (comparison (name_of_terms by) (order t u)) (two t u)) result (omega arith)
    (terms_defined t u next by) c.comparison.ensures.row c.comparison.ensures.single)))
    c.comparison.ensures.refuses
