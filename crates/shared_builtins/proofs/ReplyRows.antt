-- Rows that follow replies, and errors of refusals.
use Rattle.std.proofs.Common.{◌≡◌, ℕ, zero, suc, ◌+◌, ◌<◌, ◌≤◌, ◌^◌, true, false, List, [], ◌∷◌, length, get_or, map, Option, Some, None, IsSome, codes, refl, sym, ap, ap₂, subst, ◌∙◌, arith}
use Rattle.std.specs.List.{All}
use Rattle.std.proofs.lemmas.List.Elements.{All-cons, All-head, All-nil, All-tail}
use Rattle.pl_term.specs.Tree.{Chars, Tree, Trees, var, int, atom, comp, none, more, compound, trees, count}
use Rattle.pl_term.specs.Variables.{rename}
use Rattle.pl_model.specs.BuiltinRows.{Answer, Row, gives, one_answer, plain_answer}
use Rattle.pl_model.specs.ErrorTerms.{existence_error}
use Rattle.pl_model.specs.History.{Proc, proc}
use Rattle.pl_model.specs.Predicates.{proc_of}
use Rattle.pl_model.specs.Terms.{arguments}
use Rattle.atom_api.specs.Fixed.{fixed}
use Rattle.atom_api.specs.Names.{Names, FixedStand}
use Rattle.builtin_rows.specs.Given.{answered, given, with_room}
use Rattle.builtin_rows.specs.Rows.{ArePlaced, IsRow, listed, terms_at}
use Rattle.builtin_rows.specs.declared.row.Places.{Places}
use Rattle.builtin_rows.specs.declared.row.Row.TheVariants.{Fails, Holds}
use Rattle.builtin_rows.specs.declared.row.Row.TheVariants as rows
use Rattle.builtin_rows.proofs.Balls.{makes_from, makes_nothing}
use Rattle.builtin_rows.proofs.Giving.{gives_none, gives_plain}
use Rattle.builtin_rows.proofs.Listing.{arguments_long}
use Rattle.builtin_rows.proofs.Numbers.{has_room}
use Rattle.term_store.specs.declared.words.Place.{Place}
use Rattle.term_store.specs.Contents.{Contents, arguments_at, term_at}
use Rattle.term_store.specs.Heap.{atom_name}
use Rattle.term_store.specs.NumberedNames.{names_of}
use Rattle.world_api.specs.declared.reply.Name.{Name}
use Rattle.world_api.specs.declared.reply.Name.TheVariants.{Number, Alias}
use Rattle.world_api.specs.declared.reply.Reply.TheVariants as replies
use Rattle.iso_search.specs.declared.told.Line.TheVariants.{Indicator}
use Rattle.iso_search.specs.Told.{line_answer}
use Rattle.pl_model.specs.Balls.{indicator}
use Rattle.pl_model.specs.SharedBuiltins.{procedure_rows}
use Rattle.world_api.specs.declared.visit.Procedure.{Procedure}
use Rattle.world_api.specs.Replies.{reply_names}
use Rattle.world_api.specs.Visits.{proc_named}
use Rattle.shared_builtins.proofs.Reading.{one_text, text_is}
use Rattle.world_api.specs.Texts as worlds
use Rattle.world_builtins.specs.Naming.{IsHeldAt}
use Rattle.world_builtins.specs.Spelling.{reads, spelled, spelled_all, text_of}
use Rattle.shared_builtins.specs.declared.faults.Fault.TheVariants.{For}
use Rattle.shared_builtins.specs.declared.goal.StateGoal.{StateGoal}
use Rattle.shared_builtins.specs.declared.following.Following.{Following}
use Rattle.shared_builtins.specs.declared.following.Following.TheVariants as by
use Rattle.shared_builtins.specs.declared.preds.StatePred.{StatePred}
use Rattle.shared_builtins.specs.declared.preds.StatePred.TheVariants.{One, Two, Three}
use Rattle.shared_builtins.specs.declared.preds.StateThree.TheVariants as three
use Rattle.shared_builtins.specs.Faults.{fault_term}
use Rattle.shared_builtins.specs.Following.{IsErrorBy, IsErrorOf, IsKindNamed, IsNameHeld, IsPlain, first_of, following_of, has_options, kind_by, with_answer}
use Rattle.shared_builtins.specs.Goals.{IsStateGoal, arity_of}
use Rattle.shared_builtins.specs.Replies.{IsLineHeld}
use Rattle.shared_builtins.proofs.GoalTerms.{arity_some}
use Rattle.shared_builtins.proofs.Checking.{for_term}
use Rattle.shared_builtins.proofs.FixedNames.{existence_error_is}
use Rattle.shared_builtins.proofs.PairTerms.{fixed_read}

count_listed : (g : Chars → Chars) (ts : List Tree) → count (spelled_all g (trees ts)) ≡ length ts
count_listed g [] = refl
count_listed g (t ∷ ts) = ap suc (count_listed g ts)

proc_is : (g : Chars → Chars) (f : ℕ) (ts : List Tree) (n : ℕ) → length ts ≡ n → 0 < n → proc_of (spelled g (compound (atom_name f) ts)) ≡ proc (g (atom_name f)) n
proc_is g f [] n e some = absurd (omega arith)
proc_is g f (t ∷ ts) n e some = ap (λ k. proc (g (atom_name f)) k) (ap suc (count_listed g ts) ∙ e)

first_is : (g : Chars → Chars) (f : ℕ) (ts : List Tree) → 0 < length ts → first_of (arguments (spelled g (compound (atom_name f) ts))) ≡ spelled g (get_or ts 0 (atom []))
first_is g f [] some = absurd (omega arith)
first_is g f (t ∷ ts) some = refl

module _ (m : Names) (stands : FixedStand m) (s : Contents) (x : StateGoal) (is : IsStateGoal s x) where
  abbrev g : Tree
  g = reads m s x.place

  long : length (arguments_at s x.arguments) ≡ arity_of x.pred
  long = arguments_long s x.arguments is.inside ∙ is.predicate.1

  pub goal_proc : proc_of g ≡ proc is.predicate.0.0 (arity_of x.pred)
  goal_proc =
      ap (λ t. proc_of (spelled (text_of m) t)) is.means
      ∙ proc_is (text_of m) x.name (arguments_at s x.arguments) (arity_of x.pred) long (arity_some x.pred)
      ∙ ap (λ f. proc f (arity_of x.pred)) (fixed_read m stands x.name is.predicate.0.0 is.predicate.0.1)

  pub goal_first : (p : Place) → term_at s p ≡ get_or (arguments_at s x.arguments) 0 (atom []) → first_of (arguments g) ≡ reads m s p
  goal_first p at =
      ap (λ t. first_of (arguments (spelled (text_of m) t))) is.means
      ∙ first_is (text_of m) x.name (arguments_at s x.arguments) (omega (arith, long, arity_some x.pred)) ∙ ap (spelled (text_of m)) (sym at)

  -- One answer that makes nothing.

  pub room_given : (next : ℕ) (us : Trees) → given (proc_of g) (arguments g) next s.used s.budget (one_answer us)
      ≡ with_room (proc is.predicate.0.0 (arity_of x.pred)) next s.used s.budget (plain_answer us)
  room_given next us =
      gives_plain (proc_of g) (arguments g) next s.used s.budget us ∙ ap (λ p. with_room p next s.used s.budget (plain_answer us)) goal_proc

  pub plainly_given : (next : ℕ) (us : Trees) → next + 0 < 2 ^ 64 → s.used + 0 ≤ s.budget → given (proc_of g) (arguments g) next s.used s.budget (one_answer us) ≡ answered (us ∷ []) zero zero
  plainly_given next us few fits =
      room_given next us ∙ has_room (proc is.predicate.0.0 (arity_of x.pred)) next s.used s.budget (plain_answer us) few fits

same_used : (s : Contents) → (let t : Contents = record s { used = s.used + 0 } in t ≡ s)
same_used s = let e : s.used + 0 ≡ s.used = omega arith in ap (λ k. let t : Contents = record s { used = k } in t) e

pub holds_row : (m : Names) (s t : Contents) (next : ℕ) (p : Proc) (us : Trees) → t ≡ record s { used = s.used + 0 }
    → given p us next s.used s.budget (one_answer us) ≡ answered (us ∷ []) zero zero → IsRow s next us (given p us next s.used s.budget (one_answer us)) m t Holds
holds_row m s t next p us e is = subst (λ d. IsRow s next us d m t Holds) (sym is) (refl, (refl, (refl, e ∙ same_used s)))

pub fails_row : (m : Names) (s : Contents) (next : ℕ) (p : Proc) (us : Trees) (d : Row) → d ≡ gives [] → IsRow s next us (given p us next s.used s.budget d) m s Fails
fails_row m s next p us d e =
    subst (λ d. IsRow s next us d m s Fails) (sym (ap (given p us next s.used s.budget) e ∙ gives_none p us next s.used s.budget)) (refl, refl)

-- Errors of refusals

pub unnamed_error : (t e : Tree) → IsErrorBy None t e → rename zero e ≡ e
unnamed_error t e h = h

pub simple_error : (k : Chars) (t e : Tree) → ((f : Chars) (u : Tree) (us : Trees) → t ≡ comp f u us → ⊥) × ((x : ℕ) → t ≡ var x → ⊥) → IsErrorBy (Some k) t e → rename zero e ≡ e
simple_error k (var x) e no_comp h = absurd (no_comp.1 x refl)
simple_error k (int i) e no_comp h = h
simple_error k (atom a) e no_comp h = h
simple_error k (comp f u us) e no_comp h = absurd (no_comp.0 f u us refl)

compound_error : (k : Chars) (t : Tree) (f : Chars) (u : Tree) (us : Trees) (e : Tree) → t ≡ comp f u us → IsErrorBy (Some k) t e → e ≡ existence_error k t
compound_error k t f u us e is h =
    let P : Tree → Type 0 = λ t. IsErrorBy (Some k) t e in
    let there : e ≡ existence_error k (comp f u us) = subst P is h in there ∙ ap (existence_error k) (sym is)

shape : (g : Chars → Chars) (f : ℕ) (ts : List Tree) → 0 < length ts → (h : Chars) × (u : Tree) × (us : Trees) × (spelled g (compound (atom_name f) ts) ≡ comp h u us)
shape g f [] some = absurd (omega arith)
shape g f (t ∷ ts) some = (g (atom_name f), spelled g t, spelled_all g (trees ts), refl)

pub compound_named : (m : Names) (s : Contents) (p : Place) (a f : ℕ) (ts : List Tree) (k : Chars) → fixed a ≡ Some k → term_at s p ≡ compound (atom_name f) ts → 0 < length ts
    → (e : Tree) → IsErrorBy (Some k) (reads m s p) e → e ≡ fault_term m s (For 84 a p)
compound_named m s p a f ts k is at some e h =
    let c = shape (text_of m) f ts some in
    compound_error k (reads m s p) c.0 c.1 c.2 e (ap (spelled (text_of m)) at ∙ c.3) h
    ∙ for_term m s p 84 a (codes "existence_error") k existence_error_is is

pub name_held : (m : Names) (n : Name) → All (λ a. IsSome (m a)) (reply_names names_of (replies.Named n)) → IsNameHeld m n
name_held m (Number k) h = tt
name_held m (Alias a) h = All-head (λ b. IsSome (m b)) a [] h

pub variable_named : (m : Names) (s : Contents) (p : Place) (a n : ℕ) (k : Chars) → fixed a ≡ Some k → term_at s p ≡ var n
    → (e : Tree) → IsErrorBy (Some k) (reads m s p) e → e ≡ fault_term m s (For 84 a p)
variable_named m s p a n k is at e h =
    let P : Tree → Type 0 = λ t. IsErrorBy (Some k) t e in
    let there : e ≡ existence_error k (var n) = subst P (ap (spelled (text_of m)) at) h in
    there ∙ ap (λ t. existence_error k (spelled (text_of m) t)) (sym at) ∙ for_term m s p 84 a (codes "existence_error") k existence_error_is is

pub named_text : (o : Option Chars) (a : ℕ) → IsKindNamed o (Some a) → (k : Chars) × (o ≡ Some k) × (fixed a ≡ Some k)
named_text None a h = absurd h
named_text (Some k) a h = (k, refl, h)

-- One answer, by places

pub answer_row : (m : Names) → FixedStand m → (s t : Contents) (x : StateGoal) → IsStateGoal s x → (next : ℕ) (ps : Places) (given_at : Place) (u : Tree) → t ≡ record s { used = s.used + 0 }
    → (terms_at m t (listed ps) ≡ with_answer x.pred (arguments (reads m t x.place)) (reads m t given_at)) × ArePlaced m t (listed ps) → reads m t given_at ≡ u
    → next + 0 < 2 ^ 64 → s.used + 0 ≤ s.budget
    → IsRow s next (arguments (reads m s x.place)) (given (proc_of (reads m s x.place)) (arguments (reads m s x.place)) next s.used s.budget
    (one_answer (with_answer x.pred (arguments (reads m s x.place)) u))) m t (rows.Answer ps zero)
answer_row m stands s t x is next ps given_at u same h at few fits =
    let us = arguments (reads m s x.place) in
    let there : t ≡ s = same ∙ same_used s in
    let P : Contents → Type 0 = λ c.
    ((terms_at m c (listed ps) ≡ with_answer x.pred (arguments (reads m c x.place)) (reads m c given_at)) × ArePlaced m c (listed ps)) → reads m c given_at ≡ u
    → IsRow s next us (given (proc_of (reads m s x.place)) us next s.used s.budget (one_answer (with_answer x.pred us u))) m c (rows.Answer ps zero) in
    let here : P s = λ h at.
    subst (λ d. IsRow s next us d m s (rows.Answer ps zero)) (sym (plainly_given m stands s x is next (with_answer x.pred us u) few fits))
    (ap (λ ts. ts ∷ []) (sym (h.0 ∙ ap (with_answer x.pred us) at)), (refl, (makes_from next s s (makes_nothing s), h.1))) in
    subst P (sym there) here h at

pub still_held : (m : Names) (s t : Contents) (p : Place) → t ≡ record s { used = s.used + 0 } → IsHeldAt m s p → IsHeldAt m t p
still_held m s t p same held = subst (λ c. IsHeldAt m c p) (sym (same ∙ same_used s)) held

-- The lines of procedures

pub procedures_told : (m : Names) (ps : List Procedure) → procedure_rows (map (proc_named (worlds.text_of m)) ps) ≡ map (line_answer m) (map (λ (p : Procedure). Indicator p.name p.arity) ps)
procedures_told m [] = refl
procedures_told m (p ∷ ps) =
    ap₂ (λ x rows. let a : Answer = record { terms = more (indicator (record { name = x; arity = p.arity })) none; fresh = zero; made = 3 } in a ∷ rows)
    (one_text m p.name ∙ text_is m (atom_name p.name)) (procedures_told m ps)

pub procedures_held : (m : Names) (ps : List Procedure) → All (λ a. IsSome (m a)) (map (λ (p : Procedure). p.name) ps)
    → All (IsLineHeld m) (map (λ (p : Procedure). Indicator p.name p.arity) ps)
procedures_held m [] h = All-nil (IsLineHeld m)
procedures_held m (p ∷ ps) h =
    let P : ℕ → Type 0 = λ a. IsSome (m a) in
    let rest = map (λ (p : Procedure). p.name) ps in
    All-cons (IsLineHeld m) (Indicator p.name p.arity) (map (λ (p : Procedure). Indicator p.name p.arity) ps) (All-head P p.name rest h) (procedures_held m ps (All-tail P p.name rest h))

-- Predicates whose errors are those of their first argument or none with variables

pub plain_error : (p : StatePred) (ts : Trees) (e : Tree) → IsPlain p → IsErrorOf p ts e → IsErrorBy (kind_by p) (first_of ts) e
plain_error (One p) ts e is h = h
plain_error (Two p) ts e is h = h
plain_error (Three three.Op) ts e is h = h
plain_error (Three three.CurrentOp) ts e is h = h
plain_error (Three three.CreateThread) ts e is h = absurd is

pub plain_by : (p : StatePred) (f : Following) → f ≡ following_of p → (f ≡ by.Names → ⊥) → IsPlain p
plain_by (One p) f e other = tt
plain_by (Two p) f e other = tt
plain_by (Three three.Op) f e other = tt
plain_by (Three three.CurrentOp) f e other = tt
plain_by (Three three.CreateThread) f e other = absurd (other e)

pub plain_without : (p : StatePred) → has_options p ≡ false → IsPlain p
plain_without (One p) e = tt
plain_without (Two p) e = tt
plain_without (Three three.Op) e = tt
plain_without (Three three.CurrentOp) e = tt
plain_without (Three three.CreateThread) e = absurd cc

pub creation_with : (p : StatePred) → has_options p ≡ true → p ≡ Three three.CreateThread
creation_with (One p) e = absurd cc
creation_with (Two p) e = absurd cc
creation_with (Three three.Op) e = absurd cc
creation_with (Three three.CurrentOp) e = absurd cc
creation_with (Three three.CreateThread) e = refl
