-- What a seat that carries the keeper's counts tells of the two.
use Rattle.std.proofs.Common.{◌≡◌, ℕ, ◌<◌, [], ◌∷◌, refl, sym, ap, ap₂, ◌∙◌, subst, Option, Some}
use Rattle.std.specs.List.{All}
use Rattle.std.specs.Option.{IsSome}
use Rattle.std.proofs.lemmas.List.Elements.{All-head}
use Rattle.pl_term.specs.Tree.{Chars, Tree}
use Rattle.pl_model.specs.FirstArguments as texts
use Rattle.pl_model.specs.FirstArguments.{are_apart, head_of, unify_apart}
use Rattle.pl_model.specs.KeptCells.{kept_cells}
use Rattle.pl_model.specs.Predicates.{is_excluded}
use Rattle.pl_model.specs.declared.first_argument.FirstArgument.{FirstArgument}
use Rattle.pl_model.specs.declared.first_argument.FirstArgument.TheVariants as text_keys
use Rattle.pl_model.specs.FirstArgumentOrder.{order_of}
use Rattle.pl_model.specs.laws.FirstArgumentLaws.{heads_tell}
use Rattle.atom_words.specs.Seats.{seen}
use Rattle.atom_words.specs.declared.view.View.{View}
use Rattle.atom_words.specs.declared.words.Words.{Words}
use Rattle.atom_words.specs.declared.words.AtomSeat.{AtomSeat}
use Rattle.term_store.specs.declared.argument_key.ArgumentKey.{ArgumentKey}
use Rattle.term_store.specs.declared.argument_key.ArgumentKey.TheVariants.{Any, Int, Atom, Compound}
use Rattle.term_store.specs.ArgumentKeys.{clause_key, is_any, key_atoms, key_order}
use Rattle.term_store.specs.NumberedNames.{clause_size, names_of, unify_by_number}
use Rattle.term_store.specs.KeptLaws.{keys_are_told, sizes_are_told}
use Rattle.atom_api.specs.Names.{Names}
use Rattle.atom_table.specs.Naming.{names, Lawful}
use Rattle.atom_table.proofs.Naming.{lawful}
use Rattle.world_api.specs.KeyTexts.{key_in}
use Rattle.world_api.specs.Texts.{or_no_text, text_of}
use Rattle.world_api.proofs.KeyTextLaws.{key_spelled}
use Rattle.counted_terms.specs.Agreements.{Agreed}
use Rattle.counted_terms.specs.Keeping.{Carries, HoldsOn, Joins, both, kept, tally}
use Rattle.counted_terms.specs.CountedTerms.{IsCounted, naming, said}
use Rattle.counted_terms.proofs.Comparing.{both_apart, said_kept, texts_apart, unified}
use Rattle.counted_terms.proofs.Holding.{some_of}
use Rattle.counted_terms.proofs.OneMaps.{held_both, keeps_both, one_map}
use Rattle.counted_terms.proofs.Saying.{fixed_named, kept_fixed}

-- the key of a term has in texts the key of the term in texts
spelled_key : (m : Names) → Lawful m → (t : Tree) → key_in (text_of m) (clause_key t) ≡ texts.head_key (head_of (said m t))
spelled_key m l t = key_spelled m l.unlike (λ a x e. (l.finite a x e).2) l.stand t

module _ (w : Words) (s : AtomSeat) (j : Joins w s) where
  abbrev v : View
  v = seen s

  held_lawful : Lawful (names v)
  held_lawful = lawful w s j.sits j.fixed

  kept_lawful : Lawful (kept v)
  kept_lawful = let one = one_map w s j in let keeps = keeps_both w s j in record {
    stand = λ a t e. kept_fixed v a t j.fixed (fixed_named w s j.sits j.fixed a t e);
    unlike = λ a b t x y. one.unlike a b t (keeps a t x) (keeps b t y);
    finite = λ a t x. one.finite a t (keeps a t x);
  }

  same_text : (a : ℕ) → IsSome (names v a) → text_of (both v) a ≡ text_of (names v) a
  same_text a h = let x = some_of (names v a) h in ap (or_no_text a) (held_both v a x.0 x.1 ∙ sym x.1)

  same_key : (x : ArgumentKey) → All (λ a. IsSome (names v a)) (key_atoms x) → key_in (text_of (both v)) x ≡ key_in (text_of (names v)) x
  same_key Any h = refl
  same_key (Int i) h = refl
  same_key (Atom a) h = ap text_keys.Atom (same_text a (All-head (λ b. IsSome (names v b)) a [] h))
  same_key (Compound f k) h = ap (λ t. text_keys.Compound t k) (same_text f (All-head (λ b. IsSome (names v b)) f [] h))

  key_excluded : (x : ArgumentKey) (t : Tree) → clause_key t ≡ x → All (λ a. IsSome (names v a)) (key_atoms x) → (u : Tree) → IsCounted u v
      → are_apart key_order is_any x (clause_key u) ≡ is_excluded (head_of (said (names v) t)) (head_of (said (kept v) u))
  key_excluded x t is held u counted =
      let goal = said (both v) t in
      let head = head_of (said (kept v) u) in
      let key : texts.head_key (head_of goal) ≡ texts.head_key (head_of (said (names v) t)) =
      sym (spelled_key (both v) (one_map w s j) t) ∙ same_key (clause_key t) (subst (λ y. All (λ a. IsSome (names v a)) (key_atoms y)) (sym is) held) ∙ spelled_key (names v) held_lawful t in
      ap (λ y. are_apart key_order is_any y (clause_key u)) (sym is)
      ∙ keys_are_told (text_of (both v)) (both_apart w s j) t u
      ∙ ap (λ (y : Tree). is_excluded (head_of goal) (head_of y)) (said_kept w s j u counted)
      ∙ sym (heads_tell (head_of goal) head)
      ∙ ap (λ y. are_apart order_of texts.is_any y (texts.head_key head)) key
      ∙ heads_tell (head_of (said (names v) t)) head

  joined_agrees : Agreed v v
  joined_agrees = record {
    map = both v;
    lawful = one_map w s j;
    held = held_both v;
    keeps = keeps_both w s j;
    costs = sizes_are_told (text_of (kept v)) (texts_apart (kept v) kept_lawful);
    excluded = key_excluded;
    unified = unified w s j;
  }

-- what the joined seat tells is so of the seat and of the keeper
module _ (k v u : View) (c : Carries k v u) where
  counted_on : (t : Tree) → IsCounted t k → IsCounted t u
  counted_on t h a n = subst (λ (g : ℕ → ℕ). 0 < g a) (sym c.counts) (h a n)

  pub parted_agrees : Agreed u u → Agreed v k
  parted_agrees a = record {
    map = a.map;
    lawful = a.lawful;
    held = subst (λ (m : Names). HoldsOn m a.map) c.held a.held;
    keeps = subst (λ (m : Names). HoldsOn m a.map) c.keeps a.keeps;
    costs = λ t. a.costs t ∙ ap (λ (m : Names). kept_cells (said m t)) c.keeps;
    excluded = λ x t is held y counted. a.excluded x t is (subst (λ (m : Names). All (λ b. IsSome (m b)) (key_atoms x)) (sym c.held) held) y (counted_on y counted)
        ∙ ap₂ (λ (m n : Names). is_excluded (head_of (said m t)) (head_of (said n y))) c.held c.keeps;
    unified = λ t y held counted. a.unified t y (subst (λ (m : Names). All (λ b. IsSome (m b)) (names_of t)) (sym c.held) held) (counted_on y counted)
        ∙ ap₂ (λ (m n : Names). unify_apart (said m t) (said n y)) c.held c.keeps;
  }

pub agrees_on : (w : Words) (s : AtomSeat) (j : Joins w s) (k v : View) → Carries k v (seen s) → Agreed v k
agrees_on w s j k v c = parted_agrees k v (seen s) c (joined_agrees w s j)
