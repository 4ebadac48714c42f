-- A walk for variables that comes to each compound term once.
use Rattle.std.proofs.Common.{◌≡◌, inl, inr, ℕ, suc, ◌<◌, ◌≤◌, ◌-◌, Bool, true, false, ◌||◌, ◌==◌, if◌then◌else◌, List, [], ◌∷◌, ◌++◌, length, get_or, map, drop, drop-cons, refl, sym, ap, ap₂, subst, ◌∙◌, arith, append_assoc, append-nil}
use Rattle.std.specs.List.{All}
use Rattle.std.proofs.lemmas.Bool.{false≢true}
use Rattle.std.proofs.lemmas.Bool.Decides.{Decides-eqb}
use Rattle.std.proofs.lemmas.List.{drop_all}
use Rattle.std.proofs.lemmas.List.Elements.{All-contains, All-head, All-nil}
use Rattle.pl_term.specs.NodeLists.{with}
use Rattle.pl_term.specs.Tree.{Chars, Tree, var, atom, compound}
use Rattle.pl_term.specs.Variables.{has, is_in}
use Rattle.pl_model.proofs.UnifyReplace.{is_in-append, or-false}
use Rattle.term_store.specs.declared.known_pairs.KnownPair.{KnownPair}
use Rattle.term_store.specs.declared.views.Arguments.{Arguments}
use Rattle.term_store.specs.declared.words.Place.{Place}
use Rattle.term_store.specs.Contents.{Contents, Holds, arguments_at, term_at}
use Rattle.builtin_term.specs.declared.course.Opened.{Opened}
use Rattle.builtin_term.specs.declared.variable_walk.Walk.{Walk}
use Rattle.builtin_term.specs.Courses.{Awaits, Leaves}
use Rattle.builtin_term.specs.TermWalks.{one_has}
use Rattle.builtin_term.specs.VariableWalks.{Gains, HasLeft, IsCourse, IsWalked, Lacks, LacksAll, Passes, Visits, pending}
use Rattle.builtin_term.proofs.Coursing.{after_leaving, entered, goes_on, parted}
use Rattle.builtin_term.proofs.TermWalking.{has-compound}
use Rattle.builtin_term.proofs.VariableWalking.{pending-append, pending-push, visits_again, visits_compound}

or_nothing : (a b : Bool) → a ≡ false → b ≡ false → (a || b) ≡ false
or_nothing a b d e = ap₂ ◌||◌ d e

-- The arguments of a compound term are put on the stack from the last to the first.
pub gains_none : (s : Contents) (ts : List Tree) (ps : List Place) (i : ℕ) → length ts ≤ i → Gains s (drop i ts) ps ps
gains_none s ts ps i le =
    let none : drop i ts ≡ [] = drop_all i ts le in
    record {
      gained = [];
      pushed = sym (append-nil ps);
      stand = sym none;
      lacks = λ x _. ap (one_has x) none;
    }

pub gains_more : (s : Contents) (ts : List Tree) (start old new : List Place) (p : Place) (i : ℕ) → 0 < i → i ≤ length ts → Gains s (drop i ts) start old
    → new ≡ old ++ p ∷ [] → term_at s p ≡ get_or ts (i - 1) (atom []) → Gains s (drop (i - 1) ts) start new
gains_more s ts start old new p i some within g e at =
    let up : suc (i - 1) ≡ i = omega arith in
    let next : drop (i - 1) ts ≡ get_or ts (i - 1) (atom []) ∷ drop i ts =
    drop-cons ts (i - 1) (atom []) (omega arith) ∙ ap (λ k. get_or ts (i - 1) (atom []) ∷ drop k ts) up in
    record {
      gained = g.gained ++ p ∷ [];
      pushed = e ∙ ap (λ ps. ps ++ p ∷ []) g.pushed ∙ append_assoc start g.gained (p ∷ []);
      stand = pending-push s g.gained p ∙ ap₂ ◌∷◌ at g.stand ∙ sym next;
      lacks = λ x all.
          let both : All (Lacks x s) g.gained × All (Lacks x s) (p ∷ []) = parted (Lacks x s) g.gained (p ∷ []) all in
          ap (one_has x) next
          ∙ or_nothing (has x (get_or ts (i - 1) (atom []))) (one_has x (drop i ts)) (ap (has x) (sym at) ∙ All-head (Lacks x s) p [] both.1) (g.lacks x both.0);
    }

pub gains_all : (s : Contents) (ts : List Tree) (start ps : List Place) (i : ℕ) → i ≡ 0 → Gains s (drop i ts) start ps → Gains s ts start ps
gains_all s ts start ps i e g = subst (λ k. Gains s (drop k ts) start ps) e g

-- A variable that is met, and those that were not met after it.
is_in-with : (x n : ℕ) (xs : List ℕ) → is_in x (with n xs) ≡ (is_in x xs || has x (var n))
is_in-with x n xs = go (is_in n xs) (x == n) refl refl
  where
    go : (b d : Bool) → is_in n xs ≡ b → (x == n) ≡ d → is_in x (with n xs) ≡ (is_in x xs || has x (var n))
    go false d e f = ap (λ q. is_in x (if q then xs else xs ++ n ∷ [])) e ∙ is_in-append x xs (n ∷ [])
    go true true e f =
        let same : x ≡ n = (Decides-eqb x n).0 f in
        let here : is_in x xs ≡ true = ap (λ y. is_in y xs) same ∙ e in
        ap (λ q. is_in x (if q then xs else xs ++ n ∷ [])) e ∙ here ∙ sym (ap (λ q. q || has x (var n)) here)
    go true false e f =
        ap (λ q. is_in x (if q then xs else xs ++ n ∷ [])) e
        ∙ sym (ap (λ q. is_in x xs || (q || false)) f ∙ nothing (is_in x xs))
      where
        nothing : (a : Bool) → (a || false) ≡ a
        nothing true = refl
        nothing false = refl

module _ (s : Contents) where
  -- The place on top gives way to others.
  turned : (x : ℕ) (ws us vs : List Place) (p : Place) (opened : List Opened) (left : List KnownPair) → vs ≡ ws ++ us
      → (All (Lacks x s) us → Lacks x s p) → IsCourse x s (ws ++ p ∷ []) opened left → IsCourse x s vs opened left
  turned x ws us vs p opened left e f c =
      record { awaits = goes_on (Lacks x s) (LacksAll x s) ws us vs p opened e f c.awaits; known = c.known }

  pub walked_variable : (n : ℕ) (p : Place) (t : Tree) (before after : List ℕ) (w : Walk) → term_at s p ≡ t → t ≡ var n → after ≡ with n before
      → IsWalked s before (w.places.items ++ p ∷ []) w → IsWalked s after w.places.items w
  walked_variable n p t before after w at is e h x absent =
      let parts = or-false (is_in x before) (has x (var n)) (sym (is_in-with x n before) ∙ sym (ap (is_in x) e) ∙ absent) in
      turned x w.places.items [] w.places.items p w.course.opened.items w.course.left (sym (append-nil w.places.items)) (λ _. ap (has x) (at ∙ is) ∙ parts.1)
      (h x parts.0)

  pub walked_leaf : (p : Place) (seen : List ℕ) (w : Walk) → ((x : ℕ) → Lacks x s p) → IsWalked s seen (w.places.items ++ p ∷ []) w
      → IsWalked s seen w.places.items w
  walked_leaf p seen w none h x absent =
      turned x w.places.items [] w.places.items p w.course.opened.items w.course.left (sym (append-nil w.places.items)) (λ _. none x) (h x absent)

  -- A compound term that the walk has left has variables alone that were met.
  left_lacks : (f : Chars) (a : Arguments) (p : Place) (old new : Walk) (x : ℕ) → term_at s p ≡ compound f (arguments_at s a) → HasLeft a old new
      → IsCourse x s (old.places.items ++ p ∷ []) old.course.opened.items old.course.left → Lacks x s p
  left_lacks f a p old new x is l c =
      ap (has x) is ∙ has-compound x f (arguments_at s a)
      ∙ All-contains (LacksAll x s) old.course.left (record { left = a; right = a }) c.known l.among

  pub walked_compound : (f : Chars) (a : Arguments) (p : Place) (seen : List ℕ) (old new : Walk) → term_at s p ≡ compound f (arguments_at s a)
      → Passes s a old new → IsWalked s seen (old.places.items ++ p ∷ []) old → IsWalked s seen new.places.items new
  walked_compound f a p seen old new is (inl l) h x absent =
      let c = turned x old.places.items [] new.places.items p old.course.opened.items old.course.left (l.places ∙ sym (append-nil old.places.items))
      (λ _. left_lacks f a p old new x is l (h x absent)) (h x absent) in
      record {
        awaits = subst (All (Awaits (Lacks x s) (LacksAll x s) new.places.items)) (sym l.opened) c.awaits;
        known = subst (All (LacksAll x s)) (sym l.same) c.known;
      }
  walked_compound f a p seen old new is (inr n) h x absent =
      let g = n.gains in
      let k : KnownPair = record { left = a; right = a } in
      let c = turned x old.places.items g.gained new.places.items p old.course.opened.items old.course.left g.pushed
      (λ all. ap (has x) is ∙ has-compound x f (arguments_at s a) ∙ g.lacks x all) (h x absent) in
      record {
        awaits =
            entered (Lacks x s) (LacksAll x s) old.places.items g.gained new.places.items k (length old.places.items) old.course.opened.items old.course.left
            new.course.opened.items g.pushed refl (λ all. g.lacks x all) n.enters c.awaits;
        known = subst (All (LacksAll x s)) (sym n.same) c.known;
      }

  met_before : (seen : List ℕ) (x : ℕ) (p : Place) → ((y : ℕ) → is_in y seen ≡ false → Lacks y s p) → has x (term_at s p) ≡ true → is_in x seen ≡ true
  met_before seen x p h e = go (is_in x seen) refl
    where
      go : (b : Bool) → is_in x seen ≡ b → is_in x seen ≡ true
      go true f = f
      go false f = absurd (false≢true (sym (h x f) ∙ e))

  pub visits_passed : (f : Chars) (a : Arguments) (p : Place) (met : List Place) (seen : List ℕ) (old new : Walk) → All (Holds s) old.places.items
      → All (Holds s) met → map (term_at s) met ≡ map var seen → term_at s p ≡ compound f (arguments_at s a) → All (Holds s) new.places.items
      → Passes s a old new → IsWalked s seen (old.places.items ++ p ∷ []) old → Visits s (term_at s p) old.places.items seen new.places.items met seen
  visits_passed f a p met seen old new inside places stand is all (inl l) h =
      visits_again s (term_at s p) old.places.items met seen inside places stand new.places.items seen
      (λ x e. met_before seen x p (λ y absent. left_lacks f a p old new y is l (h y absent)) e) l.places refl
  visits_passed f a p met seen old new inside places stand is all (inr n) h =
      let g = n.gains in
      visits_compound s (term_at s p) old.places.items met seen inside places stand f (arguments_at s a) new.places.items is all
      (ap (pending s) g.pushed ∙ pending-append s old.places.items g.gained ∙ ap (λ ts. ts ++ pending s old.places.items) g.stand)

  pub walked_leaves : (n : ℕ) (seen : List ℕ) (ps : List Place) (old new : Walk) → n ≡ length ps
      → Leaves n old.course.opened.items old.course.left new.course.opened.items new.course.left → IsWalked s seen ps old → IsWalked s seen ps new
  walked_leaves n seen ps old new long l h x absent =
      let c = h x absent in
      let r = after_leaving (Lacks x s) (LacksAll x s) ps n old.course.opened.items old.course.left new.course.opened.items new.course.left long l c.awaits c.known in
      record { awaits = r.0; known = r.1 }

  pub walked_begins : (seen : List ℕ) (ps : List Place) (w : Walk) → w.course.opened.items ≡ [] → w.course.left ≡ [] → IsWalked s seen ps w
  walked_begins seen ps w e f x absent =
      record {
        awaits = subst (All (Awaits (Lacks x s) (LacksAll x s) ps)) (sym e) (All-nil (Awaits (Lacks x s) (LacksAll x s) ps));
        known = subst (All (LacksAll x s)) (sym f) (All-nil (LacksAll x s));
      }
