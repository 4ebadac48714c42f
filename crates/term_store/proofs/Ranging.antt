-- What stands below the compound terms of a block.
use Rattle.std.proofs.Common.{◌≡◌, ℕ, suc, ◌+◌, ◌<◌, ◌≤◌, List, [], ◌∷◌, ◌++◌, length, get_or, inl, inr, refl, sym, subst, ◌∙◌, arith}
use Rattle.std.specs.List.{All}
use Rattle.std.proofs.Math.Seq.{get_or-append_seam}
use Rattle.std.proofs.lemmas.Bool.{cases_lt}
use Rattle.std.proofs.lemmas.List.{get_or_append_left}
use Rattle.std.proofs.lemmas.List.Elements.{All-weaker}
use Rattle.term_store.specs.declared.words.Word.{Word}
use Rattle.term_store.specs.declared.words.Word.TheVariants.{Var, Int, Atom, Comp}
use Rattle.term_store.specs.declared.words.Head.{Head}
use Rattle.term_store.specs.declared.block.Range.{Range}
use Rattle.term_store.specs.Blocks.{AreRanges, IsClosed, IsPart, IsRange, Tiles, no_range}
use Rattle.term_store.specs.Heap.{Heap, words_of}
use Rattle.term_store.specs.Fit.{Fit, IsHead, no_head}

part_wider : (r s : Range) (w : Word) → s.low ≤ r.low → r.variables ≤ s.variables → IsPart r w → IsPart s w
part_wider r s (Var x) a b h = omega arith
part_wider r s (Int i) a b h = tt
part_wider r s (Atom i) a b h = tt
part_wider r s (Comp k) a b h = omega arith

pub parts_wider : (r s : Range) (ws : List Word) → s.low ≤ r.low → r.variables ≤ s.variables → All (IsPart r) ws → All (IsPart s) ws
parts_wider r s ws a b all = All-weaker (IsPart r) (IsPart s) (λ w h. part_wider r s w a b h) ws all

module _ (heads : List Head) (args : List Word) where
  pub closed_wider : (r s : Range) (from end : ℕ) → s.low ≤ r.low → r.variables ≤ s.variables → IsClosed heads args r from end → IsClosed heads args s from end
  closed_wider r s from end a b c j lo hi = parts_wider r s _ a b (c j lo hi)

  pub closed_joined : (r : Range) (from mid end : ℕ) → IsClosed heads args r from mid → IsClosed heads args r mid end → IsClosed heads args r from end
  closed_joined r from mid end a b j lo hi = elim (cases_lt j mid) [
    | inl below ↦ a j lo below
    | inr up ↦ b j up hi
  ]

  pub closed_none : (r : Range) (k : ℕ) → IsClosed heads args r k k
  closed_none r k j lo hi = absurd (omega arith)

  pub closed_one : (r : Range) (k : ℕ) → All (IsPart r) (words_of args (get_or heads k no_head)) → IsClosed heads args r k (suc k)
  closed_one r k all j lo hi =
      let same : k ≡ j = omega arith in
      subst (λ i. All (IsPart r) (words_of args (get_or heads i no_head))) same all

  module _ (n : ℕ) where
    pub record Last (rs : List Range) (r : Range) (from end : ℕ) : Type 0 where
      pub before : Tiles n heads args from rs r.low
      pub few : r.variables ≤ n
      pub within : r.low ≤ end
      pub closed : IsClosed heads args r r.low end

    pub tiles_last : (rs : List Range) (r : Range) (from end : ℕ) → Tiles n heads args from (rs ++ r ∷ []) end → Last rs r from end
    tiles_last [] r from end ((low, few), (mid, ((within, closed), same))) =
        record {
          before = sym low;
          few = few;
          within = omega (arith, low, within, same);
          closed = subst (λ m. IsClosed heads args r r.low m) same (subst (λ m. IsClosed heads args r m mid) (sym low) closed);
        }
    tiles_last (q ∷ qs) r from end (a, (mid, (c, t))) =
        let k = tiles_last qs r mid end t in
        record { before = (a, (mid, (c, k.before))); few = k.few; within = k.within; closed = k.closed }

    pub tiles_more : (rs : List Range) (r : Range) (from end : ℕ) → Tiles n heads args from rs r.low → r.variables ≤ n → r.low ≤ end
        → IsClosed heads args r r.low end → Tiles n heads args from (rs ++ r ∷ []) end
    tiles_more [] r from end t few within closed =
        ((sym t, few), (end, ((subst (λ m. m ≤ end) (sym t) within, subst (λ m. IsClosed heads args r m end) (sym t) closed), refl)))
    tiles_more (q ∷ qs) r from end (a, (mid, (c, t))) few within closed = (a, (mid, (c, tiles_more qs r mid end t few within closed)))

    -- The range of one more compound term.
    pub range_closed : (own r : Range) (k : ℕ) → r.low ≤ k → r.variables ≤ n → r.low ≤ own.low → own.variables ≤ r.variables → IsClosed heads args r r.low k
        → All (IsPart own) (words_of args (get_or heads k no_head)) → IsRange n heads args k r
    range_closed own r k low few below more closed parts =
        record {
          low = low;
          few = few;
          closed =
              closed_joined r r.low k (suc k) closed
              (closed_one r k (parts_wider own r (words_of args (get_or heads k no_head)) below more parts));
        }

    pub ranges_more : (k : ℕ) (rs ss : List Range) (r : Range) → length rs ≡ k → AreRanges n heads args k rs → IsRange n heads args k r → ss ≡ rs ++ r ∷ []
        → AreRanges n heads args (k + 1) ss
    ranges_more k rs ss r long all one e j lt = elim (cases_lt j k) [
      | inl below ↦
          let within : j < length rs = omega arith in
          subst (λ q. IsRange n heads args j q) (sym (get_or_append_left rs (r ∷ []) no_range j within) ∙ subst (λ qs. get_or (rs ++ r ∷ []) j no_range ≡ get_or qs j no_range) (sym e) refl)
          (all j below)
      | inr up ↦
          let same : j ≡ k = omega arith in
          subst (λ i. IsRange n heads args i (get_or ss i no_range)) (sym same)
          (subst (λ q. IsRange n heads args k q)
          (sym (subst (λ qs. get_or qs k no_range ≡ r) (sym e) (subst (λ i. get_or (rs ++ r ∷ []) i no_range ≡ r) long (get_or-append_seam rs r [] no_range)))) one)
    ]

-- The heads of a heap that has so many variables.
pub heads_given : (h : Heap) (n : ℕ) (heads : List Head) (args : List Word) → Fit h → length h.numbers ≡ n → heads ≡ h.heads → args ≡ h.args
    → (k : ℕ) → k < length heads → IsHead n args k (get_or heads k no_head)
heads_given h n heads args fit long e f k lt =
    subst (λ gs. IsHead n args k (get_or gs k no_head)) (sym e)
    (subst (λ ws. IsHead n ws k (get_or h.heads k no_head)) (sym f)
    (subst (λ m. IsHead m h.args k (get_or h.heads k no_head)) long (fit.heads k (subst (λ gs. k < length gs) e lt))))
