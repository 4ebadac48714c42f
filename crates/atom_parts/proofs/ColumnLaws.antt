-- Lines that unify with what is wanted, column by column.
use Rattle.std.proofs.Common.{◌≡◌, ℕ, suc, ◌+◌, ◌<◌, Bool, true, false, ◌==◌, if◌then◌else◌, List, [], ◌∷◌, ◌++◌, length, map, take, drop, get_or, Option, Some, None, refl, sym, ap, ap₂, subst, ◌∙◌, append_assoc, arith, length-append, drop-cons}
use Rattle.std.specs.Prelude.{is_some}
use Rattle.std.specs.List.{All}
use Rattle.std.proofs.lemmas.Bool.Decides.{Decides-eqb}
use Rattle.std.proofs.lemmas.List.{take_more, take-append-drop}
use Rattle.std.proofs.lemmas.List.Elements.{All-nil, All-cons, All-head, All-tail, All-contains, All-weaker, Contains-append_left, Contains-append_right}
use Rattle.pl_term.specs.Tree.{Chars, Tree, Trees, var, more, trees}
use Rattle.pl_term.specs.Variables.{occurrences_all, replace, replace_all}
use Rattle.pl_model.specs.Unify.{Bindings, bound, bound_all, solve_all, instance, instances}
use Rattle.pl_model.proofs.UnifySolved.{solved}
use Rattle.pl_model.proofs.UnifyGeneral.{General, general}
use Rattle.atom_parts.specs.declared.columns.Column.{Column}
use Rattle.atom_parts.specs.declared.columns.Value.{Value}
use Rattle.atom_parts.specs.declared.columns.Value.TheVariants.{Number, Part}
use Rattle.atom_parts.specs.declared.columns.Wanted.{Wanted}
use Rattle.atom_parts.specs.declared.columns.Wanted.TheVariants.{Any, Is}
use Rattle.atom_parts.specs.Columns.{Differs, DiffersBy, Meets, MeetsBy, does_unify, value_tree, values_of, wanted_of, wanted_tree}
use Rattle.builtin_atom.proofs.Asking.{contains_first}

first_same : (t u : Tree) (ts us : Trees) → more t ts ≡ more u us → t ≡ u
first_same t u ts us e = cc

rest_same : (t u : Tree) (ts us : Trees) → more t ts ≡ more u us → ts ≡ us
rest_same t u ts us e = cc

-- Lists of terms, one for each column

replaced : (b : ℕ × Tree) (f : Column → Tree) (cs : List Column) → replace_all b.0 b.1 (trees (map f cs)) ≡ trees (map (λ c. replace b.0 b.1 (f c)) cs)
replaced b f [] = refl
replaced b f (c ∷ cs) = ap (more (replace b.0 b.1 (f c))) (replaced b f cs)

bound_listed : (bs : Bindings) (f : Column → Tree) (cs : List Column) → bound_all bs (trees (map f cs)) ≡ trees (map (λ c. bound bs (f c)) cs)
bound_listed [] f cs = refl
bound_listed (b ∷ bs) f cs = ap (bound_all bs) (replaced b f cs) ∙ bound_listed bs (λ c. replace b.0 b.1 (f c)) cs

instances_listed : (σ : ℕ → Tree) (f : Column → Tree) (cs : List Column) → instances σ (trees (map f cs)) ≡ trees (map (λ c. instance σ (f c)) cs)
instances_listed σ f [] = refl
instances_listed σ f (c ∷ cs) = ap (more (instance σ (f c))) (instances_listed σ f cs)

all_equal : (f g : Column → Tree) (cs : List Column) → trees (map f cs) ≡ trees (map g cs) → All (λ c. f c ≡ g c) cs
all_equal f g [] e = All-nil (λ c. f c ≡ g c)
all_equal f g (c ∷ cs) e =
    let ts = trees (map f cs) in
    let us = trees (map g cs) in
    All-cons (λ d. f d ≡ g d) c cs (first_same (f c) (g c) ts us e) (all_equal f g cs (rest_same (f c) (g c) ts us e))

equal_all : (f g : Column → Tree) (cs : List Column) → All (λ c. f c ≡ g c) cs → trees (map f cs) ≡ trees (map g cs)
equal_all f g [] h = refl
equal_all f g (c ∷ cs) h = ap₂ more (All-head (λ d. f d ≡ g d) c cs h) (equal_all f g cs (All-tail (λ d. f d ≡ g d) c cs h))

abbrev wants : ℕ → Wanted → Bool
wants x (Any y) = x == y
wants x (Is v) = false

wants_it : (x : ℕ) (w : Wanted) → w ≡ Any x → wants x w ≡ true
wants_it x w e = ap (wants x) e ∙ (Decides-eqb x x).1 refl

wants_is : (x : ℕ) (w : Wanted) → wants x w ≡ true → w ≡ Any x
wants_is x (Any y) e = ap Any (sym ((Decides-eqb x y).0 e))
wants_is x (Is v) e = cc

module _ (text : Chars) where
  abbrev value : Column → Tree
  value c = value_tree text c.value

  abbrev wanted : Column → Tree
  wanted c = wanted_tree text c.wanted

  value_bound : (bs : Bindings) (v : Value) → bound bs (value_tree text v) ≡ value_tree text v
  value_bound [] v = refl
  value_bound (b ∷ bs) (Number n) = value_bound bs (Number n)
  value_bound (b ∷ bs) (Part at k) = value_bound bs (Part at k)

  value_instance : (σ : ℕ → Tree) (v : Value) → instance σ (value_tree text v) ≡ value_tree text v
  value_instance σ (Number n) = refl
  value_instance σ (Part at k) = refl

  -- The value of the first column that wants a variable.
  abbrev lookup : ℕ → List Column → Tree
  lookup x [] = var x
  lookup x (c ∷ cs) = if wants x c.wanted then value c else lookup x cs

  looked : (earlier rest : List Column) (x : ℕ) (t : Tree) → All (λ (e : Column). e.wanted ≡ Any x → value e ≡ t) earlier → lookup x rest ≡ t
      → lookup x (earlier ++ rest) ≡ t
  looked [] rest x t all e = e
  looked (c ∷ earlier) rest x t all e =
      go (looked earlier rest x t (All-tail (λ (d : Column). d.wanted ≡ Any x → value d ≡ t) c earlier all) e) (wants x c.wanted) refl
    where
      go : lookup x (earlier ++ rest) ≡ t → (b : Bool) → wants x c.wanted ≡ b → (if b then value c else lookup x (earlier ++ rest)) ≡ t
      go later true is = All-head (λ (d : Column). d.wanted ≡ Any x → value d ≡ t) c earlier all (wants_is x c.wanted is)
      go later false is = later

  -- All columns have what is wanted, after these.
  abbrev pub AllMeet : List Column → List Column → Type 0
  AllMeet earlier [] = Unit {0}
  AllMeet earlier (c ∷ cs) = Meets text earlier c × AllMeet (earlier ++ c ∷ []) cs

  met : (earlier rest : List Column) → AllMeet earlier rest → All (λ c. instance (λ x. lookup x (earlier ++ rest)) (wanted c) ≡ value c) rest
  met earlier [] h = All-nil (λ c. instance (λ x. lookup x (earlier ++ [])) (wanted c) ≡ value c)
  met earlier (c ∷ rest) h =
      All-cons (λ d. instance (λ x. lookup x (earlier ++ c ∷ rest)) (wanted d) ≡ value d) c rest (one c.wanted refl h.0)
      (subst (λ (l : List Column). All (λ d. instance (λ x. lookup x l) (wanted d) ≡ value d) rest) (append_assoc earlier (c ∷ []) rest)
      (met (earlier ++ c ∷ []) rest h.1))
    where
      one : (w : Wanted) → c.wanted ≡ w → MeetsBy text earlier c.value w → instance (λ x. lookup x (earlier ++ c ∷ rest)) (wanted_tree text w) ≡ value c
      one (Any x) is m =
          looked earlier (c ∷ rest) x (value c) m (ap (λ b. if b then value c else lookup x rest) (wants_it x c.wanted is))
      one (Is v) is m = value_instance (λ x. lookup x (earlier ++ c ∷ rest)) v ∙ m

  pub unify_all : (cs : List Column) → AllMeet [] cs → does_unify text cs ≡ true
  unfolding solve_all
  unify_all cs h =
      let ts = wanted_of text cs in
      let us = values_of text cs in
      let σ : ℕ → Tree = λ x. lookup x cs in
      let same : instances σ ts ≡ instances σ us =
      instances_listed σ wanted cs
      ∙ equal_all (λ c. instance σ (wanted c)) (λ c. instance σ (value c)) cs
      (All-weaker (λ c. instance σ (wanted c) ≡ value c) (λ c. instance σ (wanted c) ≡ instance σ (value c))
      (λ c e. e ∙ sym (value_instance σ c.value)) cs (met [] cs h))
      ∙ sym (instances_listed σ value cs) in
      let q : General [] (solve_all [] ts us) σ =
      general (suc (length (occurrences_all ts) + length (occurrences_all us))) (occurrences_all ts ++ occurrences_all us) [] ts us σ
      (omega (arith, length-append (occurrences_all ts) (occurrences_all us))) (λ x k. k) same in
      ap is_some q.solves

  -- Bindings that unify make of what is wanted the value.
  solved_columns : (cs : List Column) (r : Bindings) → solve_all [] (wanted_of text cs) (values_of text cs) ≡ Some r
      → (bs : Bindings) × All (λ c. bound bs (wanted c) ≡ value c) cs
  unfolding solve_all
  solved_columns cs r e =
      let ts = wanted_of text cs in
      let us = values_of text cs in
      let q = solved (suc (length (occurrences_all ts) + length (occurrences_all us))) [] r ts us e in
      let all = all_equal (λ c. bound q.later (wanted c)) (λ c. bound q.later (value c)) cs
      (sym (bound_listed q.later wanted cs) ∙ q.equal ∙ bound_listed q.later value cs) in (
        q.later,
        All-weaker (λ c. bound q.later (wanted c) ≡ bound q.later (value c)) (λ c. bound q.later (wanted c) ≡ value c)
            (λ c k. k ∙ value_bound q.later c.value) cs all,
      )

  pub unify_not : (earlier rest : List Column) (c : Column) → Differs text earlier c → does_unify text (earlier ++ c ∷ rest) ≡ false
  unify_not earlier rest c d = go (solve_all [] (wanted_of text cs) (values_of text cs)) refl
    where
      cs : List Column
      cs = earlier ++ c ∷ rest

      clash : (bs : Bindings) → All (λ e. bound bs (wanted e) ≡ value e) cs → (w : Wanted) → c.wanted ≡ w → DiffersBy text earlier c.value w
          → bound bs (wanted_tree text w) ≡ value c → ⊥
      clash bs all (Any x) is h e =
          let at : bound bs (wanted h.0) ≡ value h.0 =
          All-contains (λ f. bound bs (wanted f) ≡ value f) cs h.0 all (Contains-append_left earlier (c ∷ rest) h.0 h.1.0) in
          h.1.1.1 (sym at ∙ ap (λ v. bound bs (wanted_tree text v)) h.1.1.0 ∙ e)
      clash bs all (Is v) is h e = h (sym (value_bound bs v) ∙ e)

      go : (o : Option Bindings) → solve_all [] (wanted_of text cs) (values_of text cs) ≡ o → is_some o ≡ false
      go None is = refl
      go (Some r) is =
          let q = solved_columns cs r is in
          absurd (clash q.0 q.1 c.wanted refl d
          (All-contains (λ f. bound q.0 (wanted f) ≡ value f) cs c q.1 (Contains-append_right earlier (c ∷ rest) c (contains_first c rest))))

  -- Where the line unifies, the values that are wanted are there.
  pub wanted_there : (cs : List Column) → does_unify text cs ≡ true → All (λ (c : Column). (v : Value) → c.wanted ≡ Is v → value_tree text v ≡ value c) cs
  wanted_there cs h = go (solve_all [] (wanted_of text cs) (values_of text cs)) refl h
    where
      P : Column → Type 0
      P c = (v : Value) → c.wanted ≡ Is v → value_tree text v ≡ value c

      go : (o : Option Bindings) → solve_all [] (wanted_of text cs) (values_of text cs) ≡ o → is_some o ≡ true → All P cs
      go None is k = cc
      go (Some r) is k =
          let q = solved_columns cs r is in
          All-weaker (λ c. bound q.0 (wanted c) ≡ value c) P (λ c e v w. sym (value_bound q.0 v) ∙ ap (λ u. bound q.0 (wanted_tree text u)) (sym w) ∙ e) cs q.1

  -- One column more.
  pub meet_step : (cs : List Column) (i : ℕ) (d : Column) → i < length cs → Meets text (take i cs) (get_or cs i d)
      → AllMeet (take (i + 1) cs) (drop (i + 1) cs) → AllMeet (take i cs) (drop i cs)
  meet_step cs i d lt m rest =
      let next : suc i ≡ i + 1 = omega arith in
      subst (AllMeet (take i cs)) (sym (drop-cons cs i d lt))
      (m, subst (λ (l : List Column). AllMeet l (drop (suc i) cs)) (take_more cs i d lt) (subst (λ k. AllMeet (take (i + 1) cs) (drop k cs)) (sym next) rest))

  pub unify_not_at : (cs : List Column) (i : ℕ) (d : Column) → i < length cs → Differs text (take i cs) (get_or cs i d) → does_unify text cs ≡ false
  unify_not_at cs i d lt h =
      subst (λ (l : List Column). does_unify text l ≡ false)
      (ap (λ (l : List Column). take i cs ++ l) (sym (drop-cons cs i d lt)) ∙ take-append-drop i cs)
      (unify_not (take i cs) (drop (suc i) cs) (get_or cs i d) h)
