-- An engine that has made no step is ready where the atoms of its goal are held.
use Rattle.std.proofs.Common.{◌≡◌, ℕ, List, [], ◌∷◌, ◌++◌, Option, Some, None, IsSome, refl, sym, ap, ap₂, ◌∙◌}
use Rattle.std.specs.List.{All}
use Rattle.std.proofs.lemmas.Bool.{true≢false}
use Rattle.std.proofs.lemmas.List.Elements.{All-cons, All-head, All-nil, All-tail}
use Rattle.pl_term.specs.Tree.{Chars, Tree, Trees, var, int, atom, comp, none, more}
use Rattle.pl_model.specs.Resolution.{State}
use Rattle.pl_model.specs.Control.{start}
use Rattle.atom_api.specs.Names.{Names}
use Rattle.term_store.specs.NumberedNames.{atoms_in, atoms_in_all, number_of}
use Rattle.world_api.specs.Texts.{Holds}
use Rattle.world_api.specs.Told.{Told}
use Rattle.iso_search.specs.Reading.{IsView, View}
use Rattle.iso_search.specs.Searching.{IsWhole}
use Rattle.iso_search.specs.Spelling.{or_no_text, spelled, spelled_all, text_of}
use Rattle.iso_engine.specs.declared.engine.Engine.{Engine}
use Rattle.iso_engine.specs.Views.{view_of}
use Rattle.iso_engine.specs.Ready.{IsReady}
use Rattle.iso_engine.specs.Standing.{limits_of, state_now}

pub all_left : {X : Type 0} (P : X → Type 0) (xs ys : List X) → All P (xs ++ ys) → All P xs
all_left P [] ys h = All-nil P
all_left P (x ∷ xs) ys h = All-cons P x xs (All-head P x (xs ++ ys) h) (all_left P xs ys (All-tail P x (xs ++ ys) h))

pub all_right : {X : Type 0} (P : X → Type 0) (xs ys : List X) → All P (xs ++ ys) → All P ys
all_right P [] ys h = h
all_right P (x ∷ xs) ys h = all_right P xs ys (All-tail P x (xs ++ ys) h)

module _ (m n : Names) (holds : Holds m n) where
  abbrev IsHeld : ℕ → Type 0
  IsHeld a = IsSome (m a)

  name_later : (f : Chars) → IsHeld (number_of f) → text_of n f ≡ text_of m f
  name_later [] h = refl
  name_later (a ∷ []) h = go (m a) refl h
    where
      go : (o : Option Chars) → m a ≡ o → IsSome (m a) → text_of n (a ∷ []) ≡ text_of m (a ∷ [])
      go (Some x) e k = ap (or_no_text (a ∷ [])) (holds a x e ∙ sym e)
      go None e k = absurd (true≢false (sym k ∙ ap Rattle.std.specs.Option.is_some e))
  name_later (a ∷ (b ∷ bs)) h = refl

  mutual
    pub spelled_later : (t : Tree) → All IsHeld (atoms_in t) → spelled (text_of n) t ≡ spelled (text_of m) t
    spelled_later (var x) h = refl
    spelled_later (int i) h = refl
    spelled_later (atom f) h = ap atom (name_later f (All-head IsHeld (number_of f) [] h))
    spelled_later (comp f t ts) h =
        let rest = All-tail IsHeld (number_of f) (atoms_in t ++ atoms_in_all ts) h
        in ap₂ (λ g (p : Tree × Trees). comp g p.0 p.1) (name_later f (All-head IsHeld (number_of f) (atoms_in t ++ atoms_in_all ts) h))
        (ap₂ (λ u us. (let p : Tree × Trees = (u, us) in p)) (spelled_later t (all_left IsHeld (atoms_in t) (atoms_in_all ts) rest))
        (spelled_all_later ts (all_right IsHeld (atoms_in t) (atoms_in_all ts) rest)))

    spelled_all_later : (ts : Trees) → All IsHeld (atoms_in_all ts) → spelled_all (text_of n) ts ≡ spelled_all (text_of m) ts
    spelled_all_later none h = refl
    spelled_all_later (more t ts) h =
        ap₂ more (spelled_later t (all_left IsHeld (atoms_in t) (atoms_in_all ts) h)) (spelled_all_later ts (all_right IsHeld (atoms_in t) (atoms_in_all ts) h))

pub started_ready : (e : Engine) (goal : Tree) → IsWhole e.search
    → ((v : View) → IsView v → state_now v e [] ≡ start (limits_of e) (spelled (text_of v.names) goal))
    → (m : Names) (t : Told) → IsView (view_of m t) → All (λ a. IsSome (m a)) (atoms_in goal) → IsReady m t e
started_ready e goal whole starts m t view held =
    record {
      whole = whole;
      stable =
          λ v other alike.
          let same : state_now v e [] ≡ state_now (view_of m t) e [] =
          starts v other ∙ ap (start (limits_of e)) (spelled_later m v.names alike.holds goal held) ∙ sym (starts (view_of m t) view)
          in (ap (λ (s : State). s.choices) same, ap (λ (s : State). s.doing) same);
    }
