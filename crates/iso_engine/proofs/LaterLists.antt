-- What was told of a call stays so when more is held and others go on.
use Rattle.std.proofs.Common.{◌≡◌, ◌⊎◌, inl, inr, ℕ, ◌≤◌, List, [], ◌∷◌, ◌++◌, length, Option, Some, None, IsSome, codes, refl, sym, ap, ap₂, subst, ◌∙◌, arith}
use Rattle.std.specs.List.{All, Contains}
use Rattle.std.proofs.lemmas.List.Elements.{All-cons, All-tail, Contains-push}
use Rattle.pl_term.specs.Tree.{Chars, Tree}
use Rattle.pl_model.specs.History.{Clause, History}
use Rattle.pl_model.specs.Database.{Stored}
use Rattle.pl_model.specs.Service.{clauses_for}
use Rattle.pl_model.proofs.StateLater.{state_later}
use Rattle.atom_api.specs.Names.{Names, FixedStand}
use Rattle.term_store.specs.declared.words.Place.{Place}
use Rattle.term_store.specs.Contents.{Contents, term_at}
use Rattle.term_store.specs.NumberedNames.{atoms_in, names_of, neck, term_by}
use Rattle.term_store.specs.NameLaws.{names_are_told}
use Rattle.world_api.specs.declared.reply.Found.{Found}
use Rattle.world_api.specs.Texts.{Holds, text_of}
use Rattle.world_api.specs.Told.{Told, behind, clause_list, has_place}
use Rattle.world_api.specs.Replies.{IsFront, found_names}
use Rattle.world_api.specs.Visits.{clause_in}
use Rattle.iso_search.specs.Reading.{View, reads}
use Rattle.iso_engine.specs.Lists.{IsLeft, IsListed, IsOpenBehind}
use Rattle.iso_engine.specs.Parts.{IsOverAtoms}
use Rattle.iso_engine.specs.Views.{IsViewFrom}
use Rattle.iso_engine.proofs.PlacesApart.{behind_among, behind_first, first_among, left_behind}
use Rattle.iso_engine.proofs.Readings.{fixed_text, neck_is, read_over, same_texts}

-- Texts

holds_then : (m n k : Names) → Holds m n → Holds n k → Holds m k
holds_then m n k p q a t e = q a t (p a t e)

-- A term whose atoms are held stands for the same term when more is held.
pub same_term : (m n : Names) → FixedStand m → FixedStand n → Holds m n → (t : Tree) → All (λ a. IsSome (m a)) (atoms_in t)
    → term_by (text_of n) t ≡ term_by (text_of m) t
same_term m n fixed_m fixed_n grown t held =
    names_are_told t (text_of n) (text_of m)
    (All-cons (λ a. text_of n a ≡ text_of m a) neck (atoms_in t)
    (fixed_text n fixed_n neck (codes ":-") neck_is ∙ sym (fixed_text m fixed_m neck (codes ":-") neck_is)) (same_texts m n grown (atoms_in t) held))

pub view_fixed : (n : Names) (u : Told) (v : View) → (f : IsViewFrom n u v) → FixedStand f.names
view_fixed n u v f = subst (λ (w : View). FixedStand w.names) f.is f.view.fixed

-- A goal over atoms that are held.
pub goal_read : (m n : Names) (u : Told) → FixedStand m → Holds m n → (s : Contents) (goal : Place) → IsOverAtoms (term_at s goal)
    → All (λ a. IsSome (m a)) (atoms_in (term_at s goal)) → (v : View) → IsViewFrom n u v → reads v s goal ≡ term_by (text_of m) (term_at s goal)
goal_read m n u fixed grown s goal over held v f =
    let fixed_later : FixedStand f.names = view_fixed n u v f in
    ap (λ (w : View). reads w s goal) f.is
    ∙ sym (read_over f.names fixed_later (term_at s goal) over)
    ∙ same_term m f.names fixed fixed_later (holds_then m n f.names grown f.later.holds) (term_at s goal) held

-- Lists

front_same : (text other : ℕ → Chars) (f : Option (Found Tree)) (cs : List (Stored Clause))
    → ((x : Found Tree) → f ≡ Some x → term_by other x.clause ≡ term_by text x.clause)
    → IsFront term_by text f cs → IsFront term_by other f cs
front_same text other None [] same front = tt
front_same text other None (c ∷ cs) same front = front
front_same text other (Some x) [] same front = front
front_same text other (Some x) (c ∷ cs) same front =
    record { clause = ap clause_in (same x refl) ∙ front.clause; place = front.place; more = front.more }

-- The first clause, whose atoms are held.
pub front_later : (n : Names) (u : Told) → FixedStand n → (f : Option (Found Tree)) (cs : List (Stored Clause))
    → All (λ a. IsSome (n a)) (found_names names_of f) → (v : View) → IsViewFrom n u v
    → IsFront term_by (text_of n) f cs → IsFront term_by (text_of v.names) f cs
front_later n u fixed f cs named v from front =
    subst (λ (w : View). IsFront term_by (text_of w.names) f cs) (sym from.is)
    (front_same (text_of n) (text_of from.names) f cs (λ x is. at x is) front)
  where
    at : (x : Found Tree) → f ≡ Some x → term_by (text_of from.names) x.clause ≡ term_by (text_of n) x.clause
    at x is =
        let held : All (λ a. IsSome (n a)) (names_of x.clause) = subst (λ (o : Option (Found Tree)). All (λ a. IsSome (n a)) (found_names names_of o)) is named in
        same_term n from.names fixed (view_fixed n u v from) from.later.holds x.clause (All-tail (λ a. IsSome (n a)) neck (atoms_in x.clause) held)

-- The clauses at a generation that lies within a history.
pub list_later : (goals : ℕ) (h later : History) (g : ℕ) (goal : Tree) → g ≤ length h → clause_list goals (h ++ later) g goal ≡ clause_list goals h g goal
list_later goals h later g goal within = ap (λ s. clauses_for s g goal) (state_later goals h later g within)

-- By a later view the same list.
pub list_from : (n : Names) (u : Told) (h : History) (g : ℕ) (goal : Tree) → u.history ≡ h → g ≤ length h → (v : View) → (f : IsViewFrom n u v)
    → clause_list f.told.goals f.told.history g goal ≡ clause_list u.goals h g goal
list_from n u h g goal is within v f =
    ap₂ (λ k l. clause_list k l g goal) f.later.goals (f.later.grown ∙ ap (λ l. l ++ f.later.later) is) ∙ list_later u.goals h f.later.later g goal within

pub left_from : (n : Names) (u : Told) (h : History) (g place : ℕ) (goal : Tree) → u.history ≡ h → g ≤ length h → (v : View) → IsViewFrom n u v
    → v.left goal g place ≡ behind place (clause_list u.goals h g goal)
left_from n u h g place goal is within v f =
    ap (λ (w : View). w.left goal g place) f.is ∙ ap (behind place) (list_from n u h g goal is within v f)

-- The reply to a call: the whole list, or none where an unknown procedure fails.
pub call_listed : (n : Names) (u : Told) (h : History) (goal : Tree) (f : Option (Found Tree)) (cs : List (Stored Clause)) → FixedStand n → u.history ≡ h
    → (cs ≡ clause_list u.goals h (length h) goal) ⊎ (cs ≡ []) → IsFront term_by (text_of n) f cs → All (λ a. IsSome (n a)) (found_names names_of f)
    → (v : View) → IsViewFrom n u v → IsListed v goal (length h) f cs
call_listed n u h goal f cs fixed at is front named v from =
    record { front = front_later n u fixed f cs named v from front; left = go f cs is front }
  where
    go : (x : Option (Found Tree)) (ds : List (Stored Clause)) → (ds ≡ clause_list u.goals h (length h) goal) ⊎ (ds ≡ []) → IsFront term_by (text_of n) x ds
        → IsLeft v goal (length h) x ds
    go None ds which first = tt
    go (Some x) [] which first = absurd first
    go (Some x) (c ∷ ds) (inl whole) first = λ more.
        left_from n u h (length h) x.place goal at (omega arith) v from
        ∙ ap (λ p. behind p (clause_list u.goals h (length h) goal)) first.place
        ∙ behind_first c ds (clause_list u.goals h (length h) goal) (sym whole)
    go (Some x) (c ∷ ds) (inr nothing) first = absurd (cc)

pub call_open : (t u : Told) (h : History) (goal : Tree) (text : ℕ → Chars) (f : Option (Found Tree)) (cs : List (Stored Clause)) → u.history ≡ h
    → u.gens ≡ t.gens ++ length h ∷ [] → (cs ≡ clause_list u.goals h (length h) goal) ⊎ (cs ≡ []) → IsFront term_by text f cs
    → IsOpenBehind u goal (length h) f
call_open t u h goal text None cs at gens which first = tt
call_open t u h goal text (Some x) [] at gens which first = absurd first
call_open t u h goal text (Some x) (c ∷ ds) at gens (inl whole) first =
    record {
      own = subst (λ gs. Contains gs (length h)) (sym gens) (Contains-push t.gens (length h));
      within = subst (λ l. length h ≤ length l) (sym at) (omega arith);
      among =
          ap₂ (λ p l. has_place p (clause_list u.goals l (length h) goal)) first.place at
          ∙ first_among c ds (clause_list u.goals h (length h) goal) (sym whole);
    }
call_open t u h goal text (Some x) (c ∷ ds) at gens (inr nothing) first = absurd (cc)

-- The reply to a request for the next clause.
pub next_listed : (n : Names) (u : Told) (h : History) (g place : ℕ) (goal : Tree) (f : Option (Found Tree)) → FixedStand n → u.history ≡ h → g ≤ length h
    → IsFront term_by (text_of n) f (behind place (clause_list u.goals h g goal)) → All (λ a. IsSome (n a)) (found_names names_of f)
    → (v : View) → IsViewFrom n u v → IsListed v goal g f (v.left goal g place)
next_listed n u h g place goal f fixed at within front named v from =
    let same : v.left goal g place ≡ behind place (clause_list u.goals h g goal) = left_from n u h g place goal at within v from in
    subst (IsListed v goal g f) (sym same)
    (record {
      front = front_later n u fixed f (behind place (clause_list u.goals h g goal)) named v from front;
      left = go f (behind place (clause_list u.goals h g goal)) refl front;
    })
  where
    go : (x : Option (Found Tree)) (ds : List (Stored Clause)) → behind place (clause_list u.goals h g goal) ≡ ds → IsFront term_by (text_of n) x ds
        → IsLeft v goal g x ds
    go None ds is first = tt
    go (Some x) [] is first = absurd first
    go (Some x) (c ∷ ds) is first = λ more.
        left_from n u h g x.place goal at within v from
        ∙ ap (λ p. behind p (clause_list u.goals h g goal)) first.place
        ∙ left_behind u.goals h g goal place c ds is

pub next_open : (u : Told) (h : History) (g place : ℕ) (goal : Tree) (text : ℕ → Chars) (f : Option (Found Tree)) → u.history ≡ h → g ≤ length h
    → Contains u.gens g → IsFront term_by text f (behind place (clause_list u.goals h g goal)) → IsOpenBehind u goal g f
next_open u h g place goal text f at within own front = go f (behind place (clause_list u.goals h g goal)) refl front
  where
    go : (x : Option (Found Tree)) (ds : List (Stored Clause)) → behind place (clause_list u.goals h g goal) ≡ ds → IsFront term_by text x ds
        → IsOpenBehind u goal g x
    go None ds is first = tt
    go (Some x) [] is first = absurd first
    go (Some x) (c ∷ ds) is first =
        record {
          own = own;
          within = subst (λ l. g ≤ length l) (sym at) within;
          among =
              ap₂ (λ p l. has_place p (clause_list u.goals l g goal)) first.place at
              ∙ behind_among place c ds (clause_list u.goals h g goal) is;
        }
