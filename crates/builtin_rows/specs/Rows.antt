-- Rows as they stand in a store.
use Rattle.std.specs.Prelude.{◌≡◌, ◌≢◌, ℕ, zero, ◌+◌, List, [], ◌∷◌, ◌++◌, map, drop, Option, Some, None, Result, Ok, Err, pos}
use Rattle.std.specs.List.{All}
use Rattle.pl_term.specs.Tree.{Trees, trees, atom, int, comp, none, more}
use Rattle.pl_model.specs.BuiltinRows.{Answer, plain_answer, unifying}
use Rattle.atom_words.specs.declared.view.Refusal.{Refusal}
use Rattle.atom_words.specs.declared.view.Refusal.TheVariants.{Full as RefusalFull, Again as RefusalAgain, Worn as RefusalWorn}
use Rattle.atom_api.specs.FixedNames.{error_name, slash_name}
use Rattle.atom_api.specs.Names.{Names}
use Rattle.term_store.specs.declared.words.Place.{Place}
use Rattle.term_store.specs.Heap.{atom_name}
use Rattle.term_store.specs.Contents.{Contents, Holds as IsIn, Adds, numbers_of, term_at, upwards}
use Rattle.world_builtins.specs.Naming.{IsHeldAt}
use Rattle.world_builtins.specs.Spelling.{reads}
use Rattle.builtin_rows.specs.Given.{Given, answered, lined, thrown, full}
use Rattle.builtin_rows.specs.declared.row.Places.{Places}
use Rattle.builtin_rows.specs.declared.row.Places.TheVariants.{One, Two, Three}
use Rattle.builtin_rows.specs.declared.row.Row.{Row}
use Rattle.builtin_rows.specs.declared.row.Row.TheVariants.{Fails, Holds, Answer as RowAnswer, Line, Ball, CellsFull, NeedsAtoms, Retry, Worn}

-- What stood in the store stands there still; variables with the numbers from `next` on were made, and cells taken.
pub record Makes (s : Contents) (next fresh made : ℕ) (t : Contents) : Type 0 where
  pub others : (p : Place) → IsIn s p → term_at t p ≡ term_at s p
  pub adds : Adds s t
  pub numbers : numbers_of t ≡ numbers_of s ++ upwards next fresh
  pub used : t.used ≡ s.used + made
  pub budget : t.budget ≡ s.budget

-- The places, in the order of the arguments.
abbrev pub listed : Places → List Place
listed (One p) = p ∷ []
listed (Two p q) = p ∷ q ∷ []
listed (Three p q r) = p ∷ q ∷ r ∷ []

-- The terms at some places.
abbrev pub terms_at : Names → Contents → List Place → Trees
terms_at n t ps = trees (map (reads n t) ps)

-- The ball error(E, Name/Arity) was made of the term at a place.
pub record IsBall (s : Contents) (error : Place) (name arity : ℕ) (t : Contents) (w : Place) : Type 0 where
  pub makes : Makes s zero zero zero t
  pub inside : IsIn t w
  pub means : term_at t w
      ≡ comp (atom_name error_name) (term_at s error) (more (comp (atom_name slash_name) (atom (atom_name name)) (more (int (pos arity)) none)) none)

-- The places are of the store, and the atoms of their terms are held.
pub record ArePlaced (n : Names) (t : Contents) (ps : List Place) : Type 0 where
  pub inside : All (IsIn t) ps
  pub held : All (IsHeldAt n t) ps

-- The answers after the first one of a table: there are none, or they begin with a later line that unifies.
abbrev pub IsLater : Trees → List Answer → List Answer → Option ℕ → Type 0
IsLater us xs later None = later ≡ []
IsLater us xs later (Some k) = (later ≡ unifying us (drop k xs)) × (later ≢ [])

-- For the arguments `us` the first answer of the lines `xs` from one on has the terms `vs`.
pub record IsLine (us : Trees) (xs : List Answer) (from : ℕ) (vs : Trees) (following : Option ℕ) : Type 0 where
  pub later : List Answer
  pub first : unifying us (drop from xs) ≡ plain_answer vs ∷ later
  pub rest : IsLater us xs later following

-- A row for the arguments `ts` stands for what a predicate gives. The store was `s` and is `t`; `n` are the atoms that are held
-- then. After a refusal of the cells, and where the predicate is to be called again, nothing has changed.
abbrev pub IsRow : Contents → ℕ → Trees → Given → Names → Contents → Row → Type 0
IsRow s next ts (answered xs f k) n t Fails = (xs ≡ []) × (t ≡ s)
IsRow s next ts (answered xs f k) n t Holds = (xs ≡ ts ∷ []) × ((f ≡ zero) × ((k ≡ zero) × (t ≡ s)))
IsRow s next ts (answered xs f k) n t (RowAnswer ps fresh) =
    (xs ≡ terms_at n t (listed ps) ∷ []) × ((fresh ≡ f) × (Makes s next f k t × ArePlaced n t (listed ps)))
IsRow s next ts (lined us xs k) n t Fails = (unifying us (drop k xs) ≡ []) × (t ≡ s)
IsRow s next ts (lined us xs k) n t (Line ps following) =
    IsLine us xs k (terms_at n t ps.items) following × (Makes s next zero zero t × ArePlaced n t ps.items)
IsRow s next ts (thrown b) n t (Ball w) = (b ≡ reads n t w) × (Makes s next zero zero t × (IsIn t w × IsHeldAt n t w))
IsRow s next ts (full need) n t (CellsFull used k) = (used ≡ s.used) × ((k ≡ need) × (t ≡ s))
IsRow s next ts g n t (NeedsAtoms p) = t ≡ s
IsRow s next ts g n t (Retry c) = t ≡ s
IsRow s next ts g n t (Worn w) = t ≡ s
IsRow s next ts g n t r = ⊥

-- The row is no line of a table.
abbrev pub IsSingle : Row → Type 0
IsSingle (Line ps following) = ⊥
IsSingle r = Unit {0}

-- The refusals of atoms that a row hands on.
abbrev pub row_refusals : Row → List Refusal
row_refusals (NeedsAtoms p) = RefusalFull p ∷ []
row_refusals (Retry c) = RefusalAgain c ∷ []
row_refusals (Worn w) = RefusalWorn w ∷ []
row_refusals r = []

abbrev pub refusals_of : {E : Type 0} → Result Row E → List Refusal
refusals_of (Ok r) = row_refusals r
refusals_of (Err e) = []
