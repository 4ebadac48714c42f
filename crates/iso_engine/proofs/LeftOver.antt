-- What is left over of the goals that are no control constructs.
use Rattle.std.proofs.Common.{◌≡◌, ℕ, Bool, true, false, Some, codes, refl, sym, ap, subst, ◌∙◌}
use Rattle.std.proofs.lemmas.Bool.{false≢true, true≢false}
use Rattle.pl_term.specs.Tree.{Chars, Tree, comp, more, none}
use Rattle.pl_model.specs.Control.{construct, other}
use Rattle.atom_api.specs.Fixed.{fixed, fixed_texts}
use Rattle.atom_api.specs.FixedNames.{clause_name, retract_name, retractall_name, thread_exit_name}
use Rattle.world_api.specs.declared.visit.Procedure.{Procedure}
use Rattle.term_store.specs.declared.words.Place.{Place}
use Rattle.term_store.specs.Contents.{Contents, Holds, term_at}
use Rattle.term_store.specs.Heap.{atom_name}
use Rattle.iso_search.specs.declared.frames.Task.TheVariants.{Goal}
use Rattle.iso_search.specs.declared.construct.Construct.{Construct}
use Rattle.iso_search.specs.declared.construct.Construct.TheVariants.{Succeeds, Cuts, Conjunction, Disjunction, IfThen, IfThenElse, Fails, Repeats, Calls, NotProvable, Once, Catches, Throws, FindsAll, Halts, HaltsWithZero, Exits, Inspects, Retracts, Clears, Writes, WritesQuoted, WritesCanonical, WritesNewline, Puts, Other}
use Rattle.iso_search.specs.Constructs.{IsConstructIn, construction}
use Rattle.iso_search.specs.Goals.{IsLeft}
use Rattle.iso_search.specs.Reading.{IsView, View, reads}
use Rattle.iso_search.specs.Spelling.{spelled, text_of}
use Rattle.iso_search.proofs.Naming.{text_is}
use Rattle.iso_search.specs.declared.search.Search.{Search}
use Rattle.shared_builtins.specs.declared.goal.StateGoal.{StateGoal}
use Rattle.iso_engine.specs.declared.builtin.Builtin.{Builtin}
use Rattle.iso_engine.specs.declared.builtin.Builtin.TheVariants.{Row as RowBuiltin, State as StateBuiltin, Collect as CollectBuiltin, No}
use Rattle.iso_engine.specs.declared.builtin.RowGoal.{RowGoal}
use Rattle.iso_engine.specs.declared.state.collecting.Collection.{Collection}
use Rattle.iso_engine.specs.declared.running.Did.{Did}
use Rattle.iso_engine.specs.declared.running.Did.TheVariants.{Next as NextDid, Call as CallDid, Row as RowDid, Ask as AskDid, Write as WriteDid, Look as LookDid, Exit as ExitDid, Collect as CollectDid, Clear as ClearDid}
use Rattle.iso_engine.specs.Following.{HasProcedure, IsInteger}
use Rattle.iso_engine.specs.Builtins.{HasNoRow, IsBuiltinAt, IsOtherOnce}
use Rattle.iso_engine.specs.Calling.{IsCallAt, is_other_kind}
use Rattle.iso_engine.specs.Clearing.{IsClearAt}
use Rattle.iso_engine.specs.Collections.{IsCollectAt}
use Rattle.iso_engine.specs.Leaving.{IsExitAt}
use Rattle.iso_engine.specs.Writes.{IsWriteAt, is_write_kind}
use Rattle.iso_engine.specs.OutputGoals.{is_output}
use Rattle.iso_engine.specs.Tasks.{IsDone, IsLeftOver, IsOwnDid, IsOwnKind, IsViewed}
use Rattle.iso_engine.proofs.OwnSteps.{OwnShape, own_shape, same_term}

-- A goal that is no other one.
pub other_is : (v : View) (s : Contents) (k : Construct) (g : Tree) → construction v s k ≡ construct g → is_other_kind k ≡ true → construct g ≡ other
other_is v s Other g is e = sym is
other_is v s Succeeds g is e = absurd (false≢true e)
other_is v s Cuts g is e = absurd (false≢true e)
other_is v s (Conjunction t u) g is e = absurd (false≢true e)
other_is v s (Disjunction t u) g is e = absurd (false≢true e)
other_is v s (IfThen c t) g is e = absurd (false≢true e)
other_is v s (IfThenElse c t u) g is e = absurd (false≢true e)
other_is v s Fails g is e = absurd (false≢true e)
other_is v s Repeats g is e = absurd (false≢true e)
other_is v s (Calls t a) g is e = absurd (false≢true e)
other_is v s (NotProvable t) g is e = absurd (false≢true e)
other_is v s (Once t) g is e = absurd (false≢true e)
other_is v s (Catches t c r) g is e = absurd (false≢true e)
other_is v s (Throws t) g is e = absurd (false≢true e)
other_is v s (FindsAll x t l) g is e = absurd (false≢true e)
other_is v s (Halts t) g is e = absurd (false≢true e)
other_is v s HaltsWithZero g is e = absurd (false≢true e)
other_is v s (Exits t) g is e = absurd (false≢true e)
other_is v s (Inspects t b) g is e = absurd (false≢true e)
other_is v s (Retracts t) g is e = absurd (false≢true e)
other_is v s (Clears t) g is e = absurd (false≢true e)
other_is v s (Writes t) g is e = absurd (false≢true e)
other_is v s (WritesQuoted t) g is e = absurd (false≢true e)
other_is v s (WritesCanonical t) g is e = absurd (false≢true e)
other_is v s WritesNewline g is e = absurd (false≢true e)
other_is v s (Puts t) g is e = absurd (false≢true e)

-- A goal that writes.
output_is : (v : View) (s : Contents) (k : Construct) → is_write_kind k ≡ true → is_output (construction v s k) ≡ true
output_is v s (Writes t) e = refl
output_is v s (WritesQuoted t) e = refl
output_is v s (WritesCanonical t) e = refl
output_is v s WritesNewline e = refl
output_is v s (Puts t) e = refl
output_is v s Succeeds e = absurd (false≢true e)
output_is v s Cuts e = absurd (false≢true e)
output_is v s (Conjunction t u) e = absurd (false≢true e)
output_is v s (Disjunction t u) e = absurd (false≢true e)
output_is v s (IfThen c t) e = absurd (false≢true e)
output_is v s (IfThenElse c t u) e = absurd (false≢true e)
output_is v s Fails e = absurd (false≢true e)
output_is v s Repeats e = absurd (false≢true e)
output_is v s (Calls t a) e = absurd (false≢true e)
output_is v s (NotProvable t) e = absurd (false≢true e)
output_is v s (Once t) e = absurd (false≢true e)
output_is v s (Catches t c r) e = absurd (false≢true e)
output_is v s (Throws t) e = absurd (false≢true e)
output_is v s (FindsAll x t l) e = absurd (false≢true e)
output_is v s (Halts t) e = absurd (false≢true e)
output_is v s HaltsWithZero e = absurd (false≢true e)
output_is v s (Exits t) e = absurd (false≢true e)
output_is v s (Inspects t b) e = absurd (false≢true e)
output_is v s (Retracts t) e = absurd (false≢true e)
output_is v s (Clears t) e = absurd (false≢true e)
output_is v s Other e = absurd (false≢true e)

pub writes_is : (v : View) (s : Contents) (k : Construct) (g : Tree) → construction v s k ≡ construct g → is_write_kind k ≡ true → is_output (construct g) ≡ true
writes_is v s k g is e = ap is_output (sym is) ∙ output_is v s k e

-- A goal that is no control construct, and no step of the search of its own: another built-in predicate, a function of its
-- arguments, or a call.
module _ (s : Contents) (w : Place) (p : Procedure) (k : Construct) (a : Bool) (is : HasProcedure s w p)
    (stands : (v : View) → IsView v → construction v s k ≡ construct (reads v s w)) (other_as : a ≡ is_other_kind k) where
  pub is_other_at : a ≡ true → (v : View) → IsView v → construct (reads v s w) ≡ other
  is_other_at kind v view = other_is v s k (reads v s w) (stands v view) (sym other_as ∙ kind)

  -- There is a view by which it is read so.
  pub other_once : IsViewed → a ≡ true → IsOtherOnce s w
  other_once viewed kind = (viewed.0, viewed.1, is_other_at kind viewed.0 viewed.1)

  pub left_row : (b : Builtin) (r : RowGoal) → a ≡ true → IsBuiltinAt s w b → b ≡ RowBuiltin r → IsLeftOver s w (RowDid r)
  left_row b r kind told row =
      let at = subst (IsBuiltinAt s w) row told
      in (at.0, record { goal_is = at.1; other_is = λ v view. ap (λ x. construct (reads v s x)) at.0 ∙ is_other_at kind v view })

  pub left_state : (b : Builtin) (x : StateGoal) → a ≡ true → IsBuiltinAt s w b → b ≡ StateBuiltin x → IsLeftOver s w (AskDid x)
  left_state b x kind told state =
      let at = subst (IsBuiltinAt s w) state told
      in (
        at.0,
        record {
          goal_is = at.1;
          other_is = λ v view. ap (λ y. construct (reads v s y)) at.0 ∙ is_other_at kind v view;
          no_row = subst (HasNoRow s) (sym at.0) at.2;
        },
      )

  pub left_call : (b : Builtin) → Holds s w → (IsInteger s w → ⊥) → a ≡ true → IsBuiltinAt s w b → b ≡ No → IsLeftOver s w (CallDid w p)
  left_call b holds callable kind told calls =
      let at = subst (IsBuiltinAt s w) calls told
      in (
        refl,
        record {
          holds = holds;
          callable = callable;
          procedure = is;
          calls = λ v view. record { construct_is = is_other_at kind v view; no_builtin = at v view };
        },
      )

  pub left_collect : (b : Builtin) (x : Collection) → IsBuiltinAt s w b → b ≡ CollectBuiltin x → IsLeftOver s w (CollectDid w x)
  left_collect b x told collects = (refl, subst (IsBuiltinAt s w) collects told)

-- A goal of another kind

own_kind : (k : Construct) → IsLeft k → is_other_kind k ≡ false → is_write_kind k ≡ false → IsOwnKind k
own_kind Succeeds h others write = absurd h
own_kind Cuts h others write = absurd h
own_kind (Conjunction t u) h others write = absurd h
own_kind (Disjunction t u) h others write = absurd h
own_kind (IfThen c t) h others write = absurd h
own_kind (IfThenElse c t u) h others write = absurd h
own_kind Fails h others write = absurd h
own_kind Repeats h others write = absurd h
own_kind (Calls t a) h others write = absurd h
own_kind (NotProvable t) h others write = absurd h
own_kind (Once t) h others write = absurd h
own_kind (Catches t c r) h others write = absurd h
own_kind (Throws t) h others write = absurd h
own_kind (FindsAll x t l) h others write = absurd h
own_kind (Halts t) h others write = absurd h
own_kind HaltsWithZero h others write = absurd h
own_kind (Exits t) h others write = tt
own_kind (Inspects t b) h others write = tt
own_kind (Retracts t) h others write = tt
own_kind (Clears t) h others write = tt
own_kind (Writes t) h others write = absurd (true≢false write)
own_kind (WritesQuoted t) h others write = absurd (true≢false write)
own_kind (WritesCanonical t) h others write = absurd (true≢false write)
own_kind WritesNewline h others write = absurd (true≢false write)
own_kind (Puts t) h others write = absurd (true≢false write)
own_kind Other h others write = absurd (true≢false others)

pub kind_own : (k : Construct) (a b : Bool) → IsLeft k → a ≡ is_other_kind k → a ≡ false → b ≡ is_write_kind k → b ≡ false → IsOwnKind k
kind_own k a b left other_as kind write_as write = own_kind k left (sym other_as ∙ kind) (sym write_as ∙ write)

-- The texts of the names of the four.
exit_text : fixed thread_exit_name ≡ Some (codes "thread_exit")
unfolding fixed_texts
exit_text = refl

retract_text : fixed retract_name ≡ Some (codes "retract")
unfolding fixed_texts
retract_text = refl

retractall_text : fixed retractall_name ≡ Some (codes "retractall")
unfolding fixed_texts
retractall_text = refl

clause_text : fixed clause_name ≡ Some (codes "clause")
unfolding fixed_texts
clause_text = refl

-- It has the name and the arguments of its kind.
module _ (s : Contents) (w : Place) (holds : Holds s w) (v : View) (view : IsView v) where
  abbrev spells : Tree → Tree
  spells = spelled (text_of v.names)

  shape_at : (k : Construct) → construction v s k ≡ construct (reads v s w) → OwnShape (reads v s w) (construction v s k)
  shape_at k is = subst (OwnShape (reads v s w)) (sym is) (own_shape (reads v s w))

  -- The goal with one argument that is spelled so.
  one_is : (a : ℕ) (c : Chars) (t : Tree) → fixed a ≡ Some c → reads v s w ≡ comp c (spells t) none → term_at s w ≡ comp (atom_name a) t none
  one_is a c t text is =
      same_term (text_of v.names) view.apart (term_at s w) (comp (atom_name a) t none) (is ∙ ap (λ n. comp n (spells t) none) (sym (text_is v view a c text)))

  two_is : (a : ℕ) (c : Chars) (t u : Tree) → fixed a ≡ Some c → reads v s w ≡ comp c (spells t) (more (spells u) none)
      → term_at s w ≡ comp (atom_name a) t (more u none)
  two_is a c t u text is =
      same_term (text_of v.names) view.apart (term_at s w) (comp (atom_name a) t (more u none))
      (is ∙ ap (λ n. comp n (spells t) (more (spells u) none)) (sym (text_is v view a c text)))

  own_at : (k : Construct) (d : Did) → IsConstructIn s k → construction v s k ≡ construct (reads v s w) → IsOwnDid w k d → IsLeftOver s w d
  own_at (Exits t) d inside is same =
      subst (IsLeftOver s w) (sym same)
      (refl, record { holds = holds; inside = inside; means = one_is thread_exit_name (codes "thread_exit") (term_at s t) exit_text (shape_at (Exits t) is) })
  own_at (Clears t) d inside is same =
      subst (IsLeftOver s w) (sym same)
      (refl, record { holds = holds; inside = inside; means = one_is retractall_name (codes "retractall") (term_at s t) retractall_text (shape_at (Clears t) is) })
  own_at (Retracts t) d inside is same =
      subst (IsLeftOver s w) (sym same)
      (refl, record { holds = holds; inside = inside; means = one_is retract_name (codes "retract") (term_at s t) retract_text (shape_at (Retracts t) is) })
  own_at (Inspects h b) d inside is same =
      subst (IsLeftOver s w) (sym same) (
        refl,
        record {
          holds = holds;
          inside = inside;
          means = two_is clause_name (codes "clause") (term_at s h) (term_at s b) clause_text (shape_at (Inspects h b) is);
        },
      )
  own_at Succeeds d inside is same = absurd same
  own_at Cuts d inside is same = absurd same
  own_at (Conjunction t u) d inside is same = absurd same
  own_at (Disjunction t u) d inside is same = absurd same
  own_at (IfThen c t) d inside is same = absurd same
  own_at (IfThenElse c t u) d inside is same = absurd same
  own_at Fails d inside is same = absurd same
  own_at Repeats d inside is same = absurd same
  own_at (Calls t a) d inside is same = absurd same
  own_at (NotProvable t) d inside is same = absurd same
  own_at (Once t) d inside is same = absurd same
  own_at (Catches t c r) d inside is same = absurd same
  own_at (Throws t) d inside is same = absurd same
  own_at (FindsAll x t l) d inside is same = absurd same
  own_at (Halts t) d inside is same = absurd same
  own_at HaltsWithZero d inside is same = absurd same
  own_at (Writes t) d inside is same = absurd same
  own_at (WritesQuoted t) d inside is same = absurd same
  own_at (WritesCanonical t) d inside is same = absurd same
  own_at WritesNewline d inside is same = absurd same
  own_at (Puts t) d inside is same = absurd same
  own_at Other d inside is same = absurd same

pub own_left : (s : Contents) (w : Place) (k : Construct) (d : Did) → Holds s w → IsConstructIn s k
    → ((v : View) → IsView v → construction v s k ≡ construct (reads v s w)) → IsViewed → IsOwnDid w k d → IsLeftOver s w d
own_left s w k d holds inside stands viewed same = own_at s w holds viewed.0 viewed.1 k d inside (stands viewed.0 viewed.1) same

-- What is left over of a goal was not done.
left_is : (e : Search) (w : Place) (cut rest : ℕ) (d : Did) → IsLeftOver e.store w d → IsDone e (Goal w cut) rest e d
left_is e w cut rest (NextDid d) h = absurd h
left_is e w cut rest (CallDid x p) h =
    (refl, (cut, ap (λ y. Goal y cut) (sym h.0)), subst (λ y. IsCallAt e.store y p) (sym h.0) h.1)
left_is e w cut rest (RowDid r) h =
    (refl, (cut, ap (λ y. Goal y cut) (sym h.0)), h.1)
left_is e w cut rest (AskDid x) h =
    (refl, (cut, ap (λ y. Goal y cut) (sym h.0)), h.1)
left_is e w cut rest (WriteDid x p) h =
    (refl, (cut, ap (λ y. Goal y cut) (sym h.0)), subst (λ y. IsWriteAt e.store y p) (sym h.0) h.1)
left_is e w cut rest (LookDid x) h = (refl, (cut, ap (λ y. Goal y cut) (sym h.0)), h.1)
left_is e w cut rest (ExitDid x t) h =
    (refl, (cut, ap (λ y. Goal y cut) (sym h.0)), subst (λ y. IsExitAt e.store y t) (sym h.0) h.1)
left_is e w cut rest (CollectDid x k) h =
    (refl, (cut, ap (λ y. Goal y cut) (sym h.0)), subst (λ y. IsCollectAt e.store y k) (sym h.0) h.1)
left_is e w cut rest (ClearDid x t) h =
    (refl, (cut, ap (λ y. Goal y cut) (sym h.0)), subst (λ y. IsClearAt e.store y t) (sym h.0) h.1)

pub left_done : (e f : Search) (w : Place) (cut rest : ℕ) (d : Did) → f ≡ e → IsLeftOver f.store w d → IsDone e (Goal w cut) rest f d
left_done e f w cut rest d same h =
    subst (λ (x : Search). IsDone e (Goal w cut) rest x d) (sym same) (left_is e w cut rest d (subst (λ (x : Search). IsLeftOver x.store w d) same h))
