-- Copies that are built in a store.
use Rattle.std.proofs.Common.{◌≡◌, ℕ, ◌+◌, ◌<◌, ◌≤◌, List, [], ◌∷◌, ◌++◌, length, get_or, map, take, drop, refl, sym, ap, ap₂, subst, ◌∙◌, arith}
use Rattle.std.specs.List.{All}
use Rattle.std.proofs.lemmas.List.{drop_more, map-append, take_more}
use Rattle.std.proofs.lemmas.List.Elements.{All-cons, All-head, All-nil, All-push, All-tail, All-weaker}
use Rattle.pl_term.specs.Variables.{variables}
use Rattle.term_store.specs.declared.words.Place.{Place}
use Rattle.term_store.specs.Contents.{Adds, Builds, Contents, Holds, IsAbove, term_at}
use Rattle.iso_search.specs.declared.copies.Copied.{Copied}
use Rattle.iso_search.specs.Collecting.{AreBuilt, Rise, copy_over}
use Rattle.iso_search.proofs.Collected.{rise_above, rise_within}
use Rattle.iso_search.proofs.Converting.{grows_none, stays_again}
use Rattle.iso_search.proofs.ListTerms.{holds_still}
use Rattle.iso_search.proofs.Recoveries.{stays_built}

pub above_more : (n m : ℕ) (s : Contents) → n ≤ m → IsAbove n s → IsAbove m s
above_more n m s le h = All-weaker (λ k. k < n) (λ k. k < m) (λ k lt. omega (arith, lt, le)) s.heap.numbers h

pub built_none : (s : Contents) (cs : List Copied) → cs ≡ [] → AreBuilt s cs s []
built_none s cs e =
    record {
      stays = (grows_none s s refl).stays;
      inside = All-nil (Holds s);
      stand = sym (ap (map copy_over) e);
    }

map_same : (t u : Contents) (ps : List Place) → ((p : Place) → Holds t p → term_at u p ≡ term_at t p) → All (Holds t) ps → map (term_at u) ps ≡ map (term_at t) ps
map_same t u [] same h = refl
map_same t u (p ∷ ps) same h =
    ap₂ (λ x xs. x ∷ xs) (same p (All-head (Holds t) p ps h)) (map_same t u ps same (All-tail (Holds t) p ps h))

pub built_more : (s t u : Contents) (cs : List Copied) (i : ℕ) (c : Copied) (ps qs : List Place) (p : Place) → i < length cs → get_or cs i c ≡ c
    → AreBuilt s (take i cs) t ps → Builds t c.from c.term u p → Adds t u → qs ≡ ps ++ p ∷ []
    → AreBuilt s (take (i + 1) cs) u qs
built_more s t u cs i c ps qs p lt is b made adds e =
    record {
      stays = stays_again s t u b.stays (stays_built t u c.from c.term p made adds);
      inside = subst (All (Holds u)) (sym e) (All-push (Holds u) ps p (holds_still t u ps adds b.inside) made.holds);
      stand =
          ap (map (term_at u)) e ∙ map-append (term_at u) ps (p ∷ [])
          ∙ ap₂ (λ xs x. xs ++ x ∷ []) (map_same t u ps made.others b.inside ∙ b.stand) made.means
          ∙ sym (ap (map copy_over) (take_more cs i c lt ∙ ap (λ x. take i cs ++ x ∷ []) is) ∙ map-append copy_over (take i cs) (c ∷ []));
    }

-- What is left to be built.
pub record AreLeft (s : Contents) (cs : List Copied) (high : ℕ) : Type 0 where
  pub above : All (λ (c : Copied). IsAbove c.from s) cs
  pub low : ℕ
  pub rise : Rise low cs high

pub left_first : (s : Contents) (cs : List Copied) (high i : ℕ) (c : Copied) → i < length cs → get_or cs i c ≡ c → AreLeft s (drop i cs) high
    → IsAbove c.from s × (c.from + length (variables c.term) ≤ high)
left_first s cs high i c lt is l =
    let e : drop i cs ≡ c ∷ drop (i + 1) cs = drop_more cs i c lt ∙ ap (λ x. x ∷ drop (i + 1) cs) is in
    let rise = subst (λ xs. Rise l.low xs high) e l.rise in (
      All-head (λ (x : Copied). IsAbove x.from s) c (drop (i + 1) cs) (subst (All (λ (x : Copied). IsAbove x.from s)) e l.above),
      rise_within (c.from + length (variables c.term)) (drop (i + 1) cs) high rise.1,
    )

pub left_more : (s t : Contents) (cs : List Copied) (high i : ℕ) (c : Copied) → i < length cs → get_or cs i c ≡ c → AreLeft s (drop i cs) high
    → IsAbove (c.from + length (variables c.term)) t → AreLeft t (drop (i + 1) cs) high
left_more s t cs high i c lt is l above =
    let n = c.from + length (variables c.term) in
    let rest = drop (i + 1) cs in
    let e : drop i cs ≡ c ∷ rest = drop_more cs i c lt ∙ ap (λ x. x ∷ rest) is in
    let rise = subst (λ xs. Rise l.low xs high) e l.rise in
    record {
      above =
          All-weaker (λ (x : Copied). n ≤ x.from) (λ (x : Copied). IsAbove x.from t) (λ x le. above_more n x.from t le above) rest
          (rise_above n rest high rise.1);
      low = n;
      rise = rise.1;
    }

pub rise_each : (low : ℕ) (cs : List Copied) (high : ℕ) → Rise low cs high → All (λ (c : Copied). c.from + length (variables c.term) ≤ high) cs
rise_each low [] high r = All-nil (λ (c : Copied). c.from + length (variables c.term) ≤ high)
rise_each low (c ∷ cs) high r =
    All-cons (λ (x : Copied). x.from + length (variables x.term) ≤ high) c cs (rise_within (c.from + length (variables c.term)) cs high r.1)
    (rise_each (c.from + length (variables c.term)) cs high r.1)
