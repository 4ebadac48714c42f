-- Each step keeps what holds of the history.
use Rattle.std.proofs.Common.{◌≡◌, ℕ, zero, suc, ◌+◌, ◌≤◌, ◌<◌, ◌≢◌, ◌==◌, List, [], ◌∷◌, ◌++◌, set, Bool, true, false, Option, Some, None, length, take, drop, replicate, refl, ap, sym, ◌∙◌, subst, arith, eq-eqb, eqb-true, length-append, inl, inr}
use Rattle.std.specs.Prelude.{slice_index, if◌then◌else◌, nat_lt}
use mathlib.Core.List.{IsPrefix}
use mathlib.Core.Option.{some, some-injective, some-ne-none}
use lib.ListN.{get_elem?}
use Rattle.atomic_table.proofs.Lists.{at_set, set_else}
use Rattle.pl_model.specs.History.{Entry, History, begins, has_begun, mine}
use Rattle.pl_history.specs.Fronts.{Life, times, gains, begun_by, visited, picked, AllTold}
use Rattle.pl_history.specs.Steps.{Board, Part, View, Step, append, visit, look, revisit, inform, make, join, merge, split, hand, MayAppend, Takes, Reached, hub_alone, front_alone, both, two_fronts, nobody, at_start, newcomer, hub_appended, front_appended, merged, beside, kept, cut_off, kept_by_hub, handed}
use Rattle.pl_history.specs.Laws.{total, in_hub, carried, one_if, hubs_in, hubs, HubSees, AllSee, Sees, Kept}
use Rattle.pl_history.proofs.Totals.{total-append, total-set, total-at, total-two, total-cut, each-set, each-snoc}
use Rattle.pl_history.proofs.Lives.{times-append, times-gains, times-visited, times-begun_by, times-picked, mine_else, told-append, told_else, told_gains, told_visited, told_begun, told_picked, told_without, one_begun, runs_one, begun_before, prefix_more, prefix_all}
use Rattle.pl_history.proofs.Timing.{told_new}

-- One view changes, and the history does not

pub one_changes : (b : Board) (vs : List View) (i : ℕ) (v w : View)
    → Kept b vs
    → get_elem? vs i ≡ some v
    → hubs w ≡ hubs v
    → ((e : ℕ) → carried e w ≡ carried e v)
    → Sees b.history w
    → Kept b (set vs i w)
one_changes b vs i v w k at hub carry sees =
    record {
      generation = k.generation;
      floor = k.floor;
      pins = k.pins;
      hub = omega (arith, total-set hubs vs i v w at, k.hub, hub);
      seats = each-set (Sees b.history) vs i w k.seats sees;
      carried_once = λ e. omega (arith, total-set (carried e) vs i v w at, k.carried_once e, carry e);
      quiet = k.quiet;
    }

-- A view is cut in two

pub one_is_cut : (b : Board) (vs : List View) (i : ℕ) (v w u : View)
    → Kept b vs
    → get_elem? vs i ≡ some v
    → hubs w + hubs u ≡ hubs v
    → ((e : ℕ) → carried e w + carried e u ≡ carried e v)
    → Sees b.history w
    → Sees b.history u
    → Kept b (set vs i w ++ u ∷ [])
one_is_cut b vs i v w u k at hub carry sees there =
    record {
      generation = k.generation;
      floor = k.floor;
      pins = k.pins;
      hub = omega (arith, total-append hubs (set vs i w) (u ∷ []), total-set hubs vs i v w at, k.hub, hub);
      seats = each-snoc (Sees b.history) (set vs i w) u (each-set (Sees b.history) vs i w k.seats sees) there;
      carried_once =
          λ e. omega (arith, total-append (carried e) (set vs i w) (u ∷ []), total-set (carried e) vs i v w at, k.carried_once e, carry e);
      quiet = k.quiet;
    }

-- Two views become one

sees_nobody : (h : History) → Sees h nobody
sees_nobody h = record { hub = tt; fronts = tt }

pub two_are_one : (b : Board) (vs : List View) (i j : ℕ) (v w u : View)
    → Kept b vs
    → get_elem? vs i ≡ some v
    → ¬ (j ≡ i)
    → get_elem? vs j ≡ some w
    → hubs u ≡ hubs v + hubs w
    → ((e : ℕ) → carried e u ≡ carried e v + carried e w)
    → Sees b.history u
    → Kept b (set (set vs i u) j nobody)
two_are_one b vs i j v w u k at other there hub carry sees =
    let there' : get_elem? (set vs i u) j ≡ some w = set_else vs i j u other ∙ there in
    record {
      generation = k.generation;
      floor = k.floor;
      pins = k.pins;
      hub = omega (arith, total-set hubs (set vs i u) j w nobody there', total-set hubs vs i v u at, k.hub, hub);
      seats =
          each-set (Sees b.history) (set vs i u) j nobody (each-set (Sees b.history) vs i u k.seats sees) (sees_nobody b.history);
      carried_once =
          λ e.
          omega (arith, total-set (carried e) (set vs i u) j w nobody there', total-set (carried e) vs i v u at, k.carried_once e, carry e);
      quiet = k.quiet;
    }

-- An entry is appended

hub_else : (h : History) (x : Entry) (o : Option Part) → hubs_in o ≡ 0 → HubSees h o → HubSees (h ++ x ∷ []) o
hub_else h x None none s = tt
hub_else h x (Some p) none s = absurd (omega (arith, none))

fronts_else : (h : History) (x : Entry) (ps : List Part) → total (λ p. times x.engine p.lives) ps ≡ 0 → AllSee h ps → AllSee (h ++ x ∷ []) ps
fronts_else h x [] none s = tt
fronts_else h x (p ∷ ps) none s = (
  prefix_more p.seen h (x ∷ []) s.0,
  told_else h x p.lives (omega (arith, none)) s.1,
  fronts_else h x ps (omega (arith, none)) s.2,
)

sees_else : (h : History) (x : Entry) (v : View) → hubs v ≡ 0 → carried x.engine v ≡ 0 → Sees h v → Sees (h ++ x ∷ []) v
sees_else h x v none apart s =
    record { hub = hub_else h x v.hub none s.hub; fronts = fronts_else h x v.fronts (omega (arith, apart)) s.fronts }

module _ (b : Board) (vs : List View) (i : ℕ) (x : Entry) (h p : Part) (k : Kept b vs) (at : get_elem? vs i ≡ some (both h p)) (may : MayAppend x b.history h.lives p.lives) where
  begun_now : has_begun b.history x.engine ≡ true
  begun_now =
      let some_one : 0 < total (carried x.engine) vs = omega (arith, total-at (carried x.engine) vs i (both h p) at, runs_one x.engine h.lives p.lives may.runs) in
      begun_by_one (has_begun b.history x.engine) (omega (arith, k.carried_once x.engine, some_one))
    where
      begun_by_one : (c : Bool) → 0 < one_if c → c ≡ true
      begun_by_one true s = refl
      begun_by_one false s = absurd (omega (arith, s))

  other_engine_begins : (e : ℕ) → has_begun b.history e ≡ false → x.engine ≢ e
  other_engine_begins e none same =
      let t : has_begun b.history e ≡ true = ap (has_begun b.history) (sym same) ∙ begun_now in absurd (let f : true ≡ false = sym t ∙ none in cc)

  quiet_still : (e : ℕ) → has_begun (b.history ++ x ∷ []) e ≡ false → mine (b.history ++ x ∷ []) e ≡ []
  quiet_still e none =
      let before = begun_before b.history x e none in mine_else b.history x e (other_engine_begins e before) ∙ k.quiet e before

  begun_is_new : (e : ℕ) → begins e x.kind ≡ true → [] ≡ mine (b.history ++ x ∷ []) e
  begun_is_new e is =
      let before = may.new e is in sym (mine_else b.history x e (other_engine_begins e before) ∙ k.quiet e before)

  me : View
  me = both (hub_appended x h) (front_appended x h p)

  sees_me : Sees (b.history ++ x ∷ []) (both (hub_appended x h) (front_appended x h p))
  sees_me =
      let s = k.seats i (both h p) at in
      let seen : h.seen ++ x ∷ [] ≡ b.history ++ x ∷ [] = ap (λ ys. ys ++ x ∷ []) s.hub.0 in
      record {
        hub = (
          seen,
          told-append
              (b.history ++ x ∷ [])
              (gains x (length h.seen) h.lives)
              (begun_by x.kind)
              (told_gains b.history x (length h.seen) h.lives (ap length s.hub.0) s.hub.1)
              (told_begun (b.history ++ x ∷ []) x.kind begun_is_new),
        );
        fronts = (
          prefix_all (h.seen ++ x ∷ []) (b.history ++ x ∷ []) seen,
          told_gains b.history x (length h.seen) p.lives (ap length s.hub.0) s.fronts.1,
          tt,
        );
      }

  carried_me : (e : ℕ) → carried e (both (hub_appended x h) (front_appended x h p)) ≡ carried e (both h p) + one_if (begins e x.kind)
  carried_me e =
      let n : ℕ = length h.seen in
      omega (
        arith,
        times-append e (gains x n h.lives) (begun_by x.kind),
        times-gains e x n h.lives,
        times-gains e x n p.lives,
        times-begun_by e x.kind,
      )

  sees_others : (j : ℕ) (v : View) → get_elem? vs j ≡ some v → j ≢ i → Sees (b.history ++ x ∷ []) v
  sees_others j v there other =
      sees_else
      b.history
      x
      v
      (omega (arith, total-two hubs vs i j (both h p) v at there other, k.hub))
      (one_else (has_begun b.history x.engine) (carried x.engine (both h p)) (carried x.engine v) (total (carried x.engine) vs) (omega (arith, runs_one x.engine h.lives p.lives may.runs)) (total-two (carried x.engine) vs i j (both h p) v at there other) (k.carried_once x.engine))
      (k.seats j v there)
    where
      one_else : (c : Bool) (m n t : ℕ) → 0 < m → m + n ≤ t → t ≡ one_if c → n ≡ 0
      one_else true m n t a l e = omega (arith, a, l, e)
      one_else false m n t a l e = omega (arith, a, l, e)

  sees_all : (j : ℕ) (v : View) → get_elem? (set vs i (both (hub_appended x h) (front_appended x h p))) j ≡ some v → Sees (b.history ++ x ∷ []) v
  sees_all j v there = elim (at_set vs i j (both (hub_appended x h) (front_appended x h p)) v there) [ inl t ↦ subst (Sees (b.history ++ x ∷ [])) t.1 sees_me | inr t ↦ sees_others j v t.1 t.0 ]

  pub keeps_append : Kept (record { floor = b.floor; generation = b.generation + 1; pins = b.pins; history = b.history ++ x ∷ [] }) (set vs i (both (hub_appended x h) (front_appended x h p)))
  keeps_append =
      let longer_by_one = length-append b.history (x ∷ []) in
      record {
        generation = omega (arith, longer_by_one, k.generation);
        floor = k.floor;
        pins = λ j. omega (arith, longer_by_one, k.pins j);
        hub = omega (arith, total-set hubs vs i (both h p) (both (hub_appended x h) (front_appended x h p)) at, k.hub);
        seats = sees_all;
        carried_once =
            λ e.
            omega (
              arith,
              total-set (carried e) vs i (both h p) (both (hub_appended x h) (front_appended x h p)) at,
              carried_me e,
              one_begun b.history x e (may.new e),
              k.carried_once e,
            );
        quiet = quiet_still;
      }

-- The table as it is made

no_pin : (n k : ℕ) → slice_index (replicate n 0) k ≡ 0
no_pin zero k = refl
no_pin (suc n) zero = refl
no_pin (suc n) (suc k) = no_pin n k

eq_by : (c d : Bool) → (c ≡ true → d ≡ true) → (d ≡ true → c ≡ true) → c ≡ d
eq_by true d f g = sym (f refl)
eq_by false true f g = g refl
eq_by false false f g = refl

eq_turn : (a b : ℕ) → (a == b) ≡ (b == a)
eq_turn a b = eq_by (a == b) (b == a) (λ e. eq-eqb b a (sym (eqb-true a b e))) (λ e. eq-eqb a b (sym (eqb-true b a e)))

first_seat : (j : ℕ) (v : View) → get_elem? (hub_alone at_start ∷ []) j ≡ some v → Sees [] v
first_seat zero v e = subst (Sees []) (some-injective (hub_alone at_start) v e) (record { hub = (refl, (told_new [] 1 refl, tt)); fronts = tt })
first_seat (suc j) v e = absurd (some-ne-none v (sym e))

one_only : (e : ℕ) → carried e (hub_alone at_start) + 0 ≡ one_if (has_begun [] e)
one_only e = omega (arith, ap one_if (eq_turn 1 e))

pub keeps_start : (engines : ℕ) → Kept (record { floor = 0; generation = 0; pins = replicate engines 0; history = [] }) (hub_alone at_start ∷ [])
keeps_start engines =
    record {
      generation = refl;
      floor = λ k h. omega arith;
      pins = λ k. omega (arith, no_pin engines k);
      hub = refl;
      seats = first_seat;
      carried_once = λ e. one_only e;
      quiet = λ e none. refl;
    }

-- Each step

part_kept : (h : History) (p : Part) (ls : List Life) → AllSee h (p ∷ []) → AllTold h ls → AllSee h (record { seen = p.seen; lives = ls } ∷ [])
part_kept h p ls s t = (s.0, t, tt)

all_see-append : (h : History) (ps qs : List Part) → AllSee h ps → AllSee h qs → AllSee h (ps ++ qs)
all_see-append h [] qs s t = t
all_see-append h (p ∷ ps) qs s t = (s.0, s.1, all_see-append h ps qs s.2 t)

all_see-take : (h : History) (n : ℕ) (ps : List Part) → AllSee h ps → AllSee h (take n ps)
all_see-take h zero ps s = tt
all_see-take h (suc n) [] s = tt
all_see-take h (suc n) (p ∷ ps) s = (s.0, s.1, all_see-take h n ps s.2)

all_see-drop : (h : History) (n : ℕ) (ps : List Part) → AllSee h ps → AllSee h (drop n ps)
all_see-drop h zero ps s = s
all_see-drop h (suc n) [] s = tt
all_see-drop h (suc n) (p ∷ ps) s = all_see-drop h n ps s.2

no_hub : (o : Option Part) → o ≡ None → hubs_in o ≡ 0
no_hub o e = ap hubs_in e

no_hub_carries : (e : ℕ) (o : Option Part) → o ≡ None → in_hub e o ≡ 0
no_hub_carries e o n = ap (in_hub e) n

longer_by : (c : Bool) (h xs ys : History) → IsPrefix xs h → IsPrefix ys h → IsPrefix (if c then ys else xs) h
longer_by true h xs ys p q = q
longer_by false h xs ys p q = p

merged_sees : (h : History) (p q : Part) → AllSee h (p ∷ []) → AllSee h (q ∷ []) → AllSee h (merged p q ∷ [])
merged_sees h p q s t = (
  longer_by (nat_lt (length p.seen) (length q.seen)) h p.seen q.seen s.0 t.0,
  told-append h p.lives q.lives s.1 t.1,
  tt,
)

pub keeps : (step : Step) (b : Board) (vs : List View) (b' : Board) (vs' : List View) → Kept b vs → Takes step b vs b' vs' → Kept b' vs'
keeps (append i x) b vs b' vs' k (h, p, at, may, words, views) =
    subst (λ c. Kept c vs') (sym words) (subst (Kept _) (sym views) (keeps_append b vs i x h p k at may))
keeps (visit i) b vs b' vs' k (h, p, at, runs, words, views) =
    let s = k.seats i (both h p) at in
    subst (λ c. Kept c vs') (sym words)
    (subst (Kept b) (sym views)
    (one_changes b vs i (both h p) (both h (record { seen = h.seen; lives = visited (length h.seen) p.lives })) k at refl
    (λ e. omega (arith, times-visited e (length h.seen) p.lives))
    (record { hub = s.hub; fronts = (prefix_all h.seen b.history s.hub.0, told_visited b.history (length h.seen) p.lives (ap length s.hub.0) s.fronts.1, tt) })))
keeps (look i) b vs b' vs' k (h, p, at, words, views) =
    let s = k.seats i (both h p) at in
    subst (λ c. Kept c vs') (sym words)
    (subst (Kept b) (sym views)
    (one_changes b vs i (both h p) (both h (record { seen = h.seen; lives = p.lives })) k at refl
    (λ e. refl)
    (record { hub = s.hub; fronts = (prefix_all h.seen b.history s.hub.0, s.fronts.1, tt) })))
keeps (revisit i) b vs b' vs' k (p, at, runs, all, words, views) =
    let s = k.seats i (front_alone p) at in
    subst (λ c. Kept c vs') (sym words)
    (subst (Kept b) (sym views)
    (one_changes b vs i (front_alone p) (front_alone (record { seen = p.seen; lives = visited (length p.seen) p.lives })) k at refl
    (λ e. omega (arith, times-visited e (length p.seen) p.lives))
    (record { hub = tt; fronts = (s.fronts.0, told_visited b.history (length p.seen) p.lives (sym all ∙ k.generation) s.fronts.1, tt) })))
keeps (inform i) b vs b' vs' k (p, q, at, words, views) =
    let s = k.seats i (two_fronts p q) at in
    subst (λ c. Kept c vs') (sym words)
    (subst (Kept b) (sym views)
    (one_changes b vs i (two_fronts p q) (two_fronts p (record { seen = p.seen; lives = q.lives })) k at refl
    (λ e. refl)
    (record { hub = tt; fronts = (s.fronts.0, s.fronts.1, (s.fronts.0, s.fronts.2.1, tt)) })))
keeps make b vs b' vs' k (words, views) =
    subst (λ c. Kept c vs') (sym words)
    (subst (Kept b) (sym views)
    (record {
      generation = k.generation;
      floor = k.floor;
      pins = k.pins;
      hub = omega (arith, total-append hubs vs (front_alone newcomer ∷ []), k.hub);
      seats = each-snoc (Sees b.history) vs (front_alone newcomer) k.seats (record { hub = tt; fronts = ((b.history, refl), tt, tt) });
      carried_once = λ e. omega (arith, total-append (carried e) vs (front_alone newcomer ∷ []), k.carried_once e);
      quiet = k.quiet;
    }))
keeps (join i j) b vs b' vs' k (v, w, at, other, there, none, words, views) =
    subst (λ c. Kept c vs') (sym words)
    (subst (Kept b) (sym views)
    (two_are_one b vs i j v w (beside v w) k at other there
    (omega (arith, no_hub w.hub none))
    (λ e. omega (arith, no_hub_carries e w.hub none, total-append (λ (p : Part). times e p.lives) v.fronts w.fronts))
    (record {
      hub = (k.seats i v at).hub;
      fronts = all_see-append b.history v.fronts w.fronts (k.seats i v at).fronts (k.seats j w there).fronts;
    })))
keeps (merge i j) b vs b' vs' k (p, q, at, other, there, words, views) =
    subst (λ c. Kept c vs') (sym words)
    (subst (Kept b) (sym views)
    (two_are_one b vs i j (front_alone p) (front_alone q) (front_alone (merged p q)) k at other there
    refl
    (λ e. omega (arith, times-append e p.lives q.lives))
    (record { hub = tt; fronts = merged_sees b.history p q (k.seats i (front_alone p) at).fronts (k.seats j (front_alone q) there).fronts })))
keeps (split i n) b vs b' vs' k (v, at, words, views) =
    let s = k.seats i v at in
    subst (λ c. Kept c vs') (sym words)
    (subst (Kept b) (sym views)
    (one_is_cut b vs i v (kept n v) (cut_off n v) k at
    (omega arith)
    (λ e. omega (arith, total-cut (λ (p : Part). times e p.lives) n v.fronts))
    (record { hub = s.hub; fronts = all_see-take b.history n v.fronts s.fronts })
    (record { hub = tt; fronts = all_see-drop b.history n v.fronts s.fronts })))
keeps (hand i e) b vs b' vs' k (h, p, at, some_one, over, words, views) =
    let s = k.seats i (both h p) at in
    subst (λ c. Kept c vs') (sym words)
    (subst (Kept b) (sym views)
    (one_is_cut b vs i (both h p) (kept_by_hub e (both h p)) (handed e (both h p)) k at
    refl
    (λ d. omega (arith, times-picked d e h.lives, times-append d (picked e h.lives) p.lives))
    (record { hub = (s.hub.0, told_without b.history e h.lives s.hub.1); fronts = tt })
    (record {
      hub = tt;
      fronts = (s.fronts.0, told-append b.history (picked e h.lives) p.lives (told_picked b.history e h.lives s.hub.1) s.fronts.1, tt);
    })))

pub reached_kept : (engines : ℕ) (steps : List Step) (b : Board) (vs : List View) → Reached engines steps b vs → Kept b vs
reached_kept engines [] b vs r = subst (λ c. Kept c vs) (sym r.board) (subst (Kept _) (sym r.views) (keeps_start engines))
reached_kept engines (s ∷ steps) b vs (b0, vs0, r, t) = keeps s b0 vs0 b vs (reached_kept engines steps b0 vs0 r) t
