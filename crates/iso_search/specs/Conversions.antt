-- The conversion of bodies, a step at a time.
use Rattle.std.specs.Prelude.{◌≡◌, ℕ, Bool, true, false, List, [], ◌∷◌, map, reverse, Option, Some, None}
use Rattle.pl_term.specs.Tree.{Chars, Tree, Trees, comp, none, more, trees}
use Rattle.pl_model.specs.BodyChecks.{converted}
use Rattle.term_store.specs.declared.words.Place.{Place}
use Rattle.term_store.specs.Heap.{atom_name}
use Rattle.term_store.specs.Contents.{Contents, Holds, Adds, numbers_of, term_at}
use Rattle.iso_search.specs.declared.bodies.Step.{Step}
use Rattle.iso_search.specs.declared.bodies.Step.TheVariants.{Visit, Join}
use Rattle.iso_search.specs.Reading.{View, reads}
use Rattle.iso_search.specs.Spelling.{text_of}

-- All that stood in the store stands there still, and no cells were counted.
pub record Stays (s t : Contents) : Type 0 where
  pub others : (p : Place) → Holds s p → term_at t p ≡ term_at s p
  pub adds : Adds s t
  pub used : t.used ≡ s.used
  pub budget : t.budget ≡ s.budget

-- The same, and no variables were made.
pub record Grows (s t : Contents) : Type 0 where
  pub stays : Stays s t
  pub numbers : numbers_of t ≡ numbers_of s

abbrev pub IsConverted : View → Contents → Place → Contents → Option Place → Type 0
IsConverted v s p t None = converted (reads v s p) ≡ None
IsConverted v s p t (Some q) = converted (reads v s p) ≡ Some (reads v t q)

-- A step on terms: a body is to be converted, or two goals are to be joined under a name.
pub data Part : Type 0 where
  visit : Tree → Part
  join : Chars → Part

abbrev pub with_goal : Option Tree → (Tree → Option Tree) → Option Tree
with_goal None k = None
with_goal (Some t) k = k t

-- The goal that comes of the steps, where these goals were made before, the last one first.
abbrev pub finish : List Part → Trees → Option Tree
finish [] none = None
finish [] (more t ts) = Some t
finish (visit t ∷ ps) ts = with_goal (converted t) (λ u. finish ps (more u ts))
finish (join f ∷ ps) none = None
finish (join f ∷ ps) (more u none) = None
finish (join f ∷ ps) (more u (more t ts)) = finish ps (more (comp f t (more u none)) ts)

abbrev pub part : View → Contents → Step → Part
part v s (Visit p) = visit (reads v s p)
part v s (Join a) = join (text_of v.names (atom_name a))

-- Both are kept with the last one on top.
abbrev pub parts : View → Contents → List Step → List Part
parts v s xs = map (part v s) (reverse xs)

abbrev pub goals_made : View → Contents → List Place → Trees
goals_made v s ps = trees (map (reads v s) (reverse ps))

abbrev pub IsStepIn : Contents → Step → Type 0
IsStepIn s (Visit p) = Holds s p
IsStepIn s (Join a) = Unit {0}

-- What comes of the steps is what it was before one of them was done, or that step leads to no goal.
abbrev pub Converts : Bool → View → Contents → Step → List Step → List Place → Contents → List Step → List Place → Type 0
Converts true v s x xs ps t ys qs = finish (parts v t ys) (goals_made v t qs) ≡ finish (part v s x ∷ parts v s xs) (goals_made v s ps)
Converts false v s x xs ps t ys qs = finish (part v s x ∷ parts v s xs) (goals_made v s ps) ≡ None

abbrev pub Joins : Bool → View → Contents → ℕ → List Part → List Place → Contents → List Place → Type 0
Joins true v s a xs ps t qs = finish xs (goals_made v t qs) ≡ finish (join (text_of v.names (atom_name a)) ∷ xs) (goals_made v s ps)
Joins false v s a xs ps t qs = finish (join (text_of v.names (atom_name a)) ∷ xs) (goals_made v s ps) ≡ None

abbrev pub Visits : View → Contents → Place → List Step → List Place → List Step → List Place → Type 0
Visits v s p xs ps ys qs = finish (parts v s ys) (goals_made v s qs) ≡ finish (visit (reads v s p) ∷ parts v s xs) (goals_made v s ps)
