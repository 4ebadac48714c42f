-- What the table's calls ask: that each is a step, in a state that steps have reached.
use Rattle.std.proofs.Common.{◌≡◌, ℕ, suc, ◌+◌, ◌==◌, ◌%◌, ◌^◌, ◌≤◌, ◌<◌, List, [], ◌∷◌, ◌++◌, Bool, true, false, None, length, replicate, refl, ap, sym, ◌∙◌, subst, arith, eq-eqb, eqb-true}
use Rattle.std.specs.Prelude.{slice_index, slice_set}
use mathlib.Core.List.{IsPrefix}
use mathlib.Core.Option.{some}
use lib.ListN.{get_elem?}
use Rattle.atomic_table.specs.Table.{Me, State, Act, Valid, stepped, carried_after, keeps, Allows, Joins, Splits, Enters, opening}
use Rattle.atomic_table.proofs.Lists.{set_else, set_again}
use Rattle.pl_model.specs.History.{Entry, History, has_begun}
use Rattle.pl_history.specs.Fronts.{times, all_over, own_runs, AllTold}
use Rattle.pl_history.specs.Steps.{Board, Part, View, Step, append, visit, look, revisit, inform, make, join, merge, split, hand, MayAppend, Takes, Reached, Ruled, laid, hub_alone, front_alone, both, two_fronts, nobody, at_start, newcomer, merged, beside, as_one, kept, cut_off, kept_by_hub, handed}
use Rattle.pl_history.specs.Laws.{AllSee, carried, one_if, Kept}
use Rattle.pl_history.specs.Seats.{Fits, Tells, Compared, Informed, Revisited, after_append, after_visit, after_look, after_nothing, after_revisit, hub_of, front_of, told_by}
use Rattle.pl_history.proofs.Totals.{total-at}
use Rattle.pl_history.proofs.Keeps.{reached_kept}

module _ (engines : ℕ) where
  -- Two views in one

  joined : (id other : ℕ) (v w u : View) (step : Step)
      → ((b : Board) (vs : List View) → get_elem? vs id ≡ some v → ¬ (other ≡ id) → get_elem? vs other ≡ some w
      → Takes step b vs b (slice_set (slice_set vs id u) other nobody))
      → Joins (Ruled engines) id v other w u nobody
  joined id other v w u step takes s r at apart there =
      let there' : get_elem? s.views other ≡ some w = sym (set_else s.views id other u apart) ∙ there in
      record {
        board = r.board;
        words = r.words;
        steps = step ∷ r.steps;
        reached = (r.board, s.views, r.reached, takes r.board s.views at apart there');
      }

  pub joins_beside : (id other : ℕ) (v w : View) → w.hub ≡ None → Joins (Ruled engines) id v other w (beside v w) nobody
  joins_beside id other v w none =
      joined id other v w (beside v w) (join id other) (λ b vs at apart there. (v, w, at, apart, there, none, refl, refl))

  pub joins_as_one : (id other : ℕ) (v w : View) (p q : Part) → v ≡ front_alone p → w ≡ front_alone q → Joins (Ruled engines) id v other w (as_one v w) nobody
  joins_as_one id other v w p q ve we =
      subst (λ y. Joins (Ruled engines) id y other w (as_one y w) nobody) (sym ve)
      (subst (λ y. Joins (Ruled engines) id (front_alone p) other y (as_one (front_alone p) y) nobody) (sym we)
      (joined id other (front_alone p) (front_alone q) (front_alone (merged p q)) (merge id other) (λ b vs at apart there. (p, q, at, apart, there, refl, refl))))

  -- One view in two

  cut : (id : ℕ) (v left right : View) (step : Step)
      → ((b : Board) (vs : List View) → get_elem? vs id ≡ some v → Takes step b vs b (slice_set vs id left ++ right ∷ []))
      → Splits (Ruled engines) id v left right
  cut id v left right step takes s r at =
      record { board = r.board; words = r.words; steps = step ∷ r.steps; reached = (r.board, s.views, r.reached, takes r.board s.views at) }

  pub splits_at : (n id : ℕ) (v : View) → Splits (Ruled engines) id v (kept n v) (cut_off n v)
  splits_at n id v = cut id v (kept n v) (cut_off n v) (split id n) (λ b vs at. (v, at, refl, refl))

  pub splits_hand : (e id : ℕ) (v : View) (h p : Part) → v ≡ both h p → 0 < times e h.lives → all_over p.lives ≡ true → Splits (Ruled engines) id v (kept_by_hub e v) (handed e v)
  splits_hand e id v h p ve some_one over =
      subst (λ y. Splits (Ruled engines) id y (kept_by_hub e y) (handed e y)) (sym ve)
      (cut id (both h p) (kept_by_hub e (both h p)) (handed e (both h p)) (hand id e) (λ b vs at. (h, p, at, some_one, over, refl, refl)))

  -- A step on the generation word

  allowed : (slots id : ℕ) (me : Me (Unit {0}) View) (f : ℕ → ℕ) (then : ℕ → Me (Unit {0}) View → Type 0)
      → ((b : Board) (vs : List View) → Kept b vs → get_elem? vs id ≡ some me.0
      → (step : Step) × (b' : Board) × (w : View) × Takes step b vs b' (slice_set vs id w) × (laid b' ≡ b.floor ∷ f b.generation ∷ b.pins) × then b.generation (w, me.1))
      → Allows (Ruled engines) slots id me 1 f then
  allowed slots id me f then go s r homes at small =
      let t = go r.board s.views (reached_kept engines r.steps r.board s.views r.reached) at in
      let found : slice_index s.words 1 ≡ r.board.generation = ap (λ ws. slice_index ws 1) r.words in (
        t.2,
        keeps,
        tt,
        record {
          board = t.1;
          words = ap (λ ws. slice_set ws 1 (f (slice_index ws 1))) r.words ∙ sym t.4;
          steps = t.0 ∷ r.steps;
          reached = (r.board, s.views, r.reached, t.3);
        },
        subst (λ n. then n (t.2, me.1)) (sym found) t.5,
      )

  fits : (b : Board) (vs : List View) (id : ℕ) (h p : Part) → Kept b vs → get_elem? vs id ≡ some (both h p) → Fits h p
  fits b vs id h p k at =
      let s = k.seats id (both h p) at in
      record {
        seen = subst (λ y. IsPrefix p.seen y) (sym s.hub.0) s.fronts.0;
        hub_told = subst (λ y. AllTold y h.lives) (sym s.hub.0) s.hub.1;
        front_told = subst (λ y. AllTold y p.lives) (sym s.hub.0) s.fronts.1;
      }

  found_length : (b : Board) (vs : List View) (id : ℕ) (h p : Part) → Kept b vs → get_elem? vs id ≡ some (both h p) → b.generation ≡ length h.seen
  found_length b vs id h p k at = k.generation ∙ ap (λ (y : History). length y) (sym (k.seats id (both h p) at).hub.0)

  pub allows_look : (slots id : ℕ) (h p : Part) (me : Me (Unit {0}) View) → me ≡ (both h p, []) → Allows (Ruled engines) slots id me 1 (λ n. n) (Tells after_look me)
  allows_look slots id h p me e =
      subst (λ m. Allows (Ruled engines) slots id m 1 (λ n. n) (Tells after_look m)) (sym e)
      (allowed slots id (both h p, []) (λ n. n) (Tells after_look (both h p, []))
      (λ b vs k at. (
        look id,
        b,
        both h (record { seen = h.seen; lives = p.lives }),
        (h, p, at, refl, refl),
        refl,
        record { found_is = found_length b vs id h p k at; view = refl; fits = fits b vs id h p k at },
      )))

  pub allows_visit : (slots id : ℕ) (h p : Part) (me : Me (Unit {0}) View) → me ≡ (both h p, []) → own_runs p.lives ≡ true → Allows (Ruled engines) slots id me 1 (λ n. n) (Tells after_visit me)
  allows_visit slots id h p me is runs =
      subst (λ m. Allows (Ruled engines) slots id m 1 (λ n. n) (Tells after_visit m)) (sym is)
      (allowed slots id (both h p, []) (λ n. n) (Tells after_visit (both h p, []))
      (λ b vs k at. (
        visit id,
        b,
        after_visit (both h p),
        (h, p, at, runs, refl, refl),
        refl,
        record { found_is = found_length b vs id h p k at; view = refl; fits = fits b vs id h p k at },
      )))

  -- A visit of a front alone, where it has seen all

  revisits : (c : Bool) (slots id : ℕ) (p : Part) (s : State (Unit {0}) View) (r : Ruled engines s)
      → (r.board.generation == length p.seen) ≡ c
      → own_runs p.lives ≡ true
      → get_elem? s.views id ≡ some (front_alone p)
      → (w : View) × (a : Act (Unit {0})) × Valid s.homes [] a × Ruled engines (stepped s 1 (slice_index s.words 1) id [] w a)
      × Revisited (front_alone p, []) (slice_index s.words 1) (w, carried_after [] a)
  revisits true slots id p s r is runs at =
      let found : slice_index s.words 1 ≡ r.board.generation = ap (λ ws. slice_index ws 1) r.words in
      let all : r.board.generation ≡ length p.seen = eqb-true r.board.generation (length p.seen) is in (
        after_revisit (front_alone p),
        keeps,
        tt,
        record {
          board = r.board;
          words = ap (λ ws. slice_set ws 1 (slice_index ws 1)) r.words;
          steps = revisit id ∷ r.steps;
          reached = (r.board, s.views, r.reached, (p, at, runs, all, refl, refl));
        },
        record { visits = λ _. refl; stays = λ other. absurd (other (found ∙ all)) },
      )
  revisits false slots id p s r is runs at =
      let found : slice_index s.words 1 ≡ r.board.generation = ap (λ ws. slice_index ws 1) r.words in (
        front_alone p,
        keeps,
        tt,
        record {
          board = r.board;
          words = ap (λ ws. slice_set ws 1 (slice_index ws 1)) r.words;
          steps = r.steps;
          reached = subst (Reached engines r.steps r.board) (sym (set_again s.views id (front_alone p) at)) r.reached;
        },
        record {
          visits =
              λ all.
              let here : r.board.generation ≡ length p.seen = sym found ∙ all in
              let t : true ≡ false = sym (eq-eqb r.board.generation (length p.seen) here) ∙ is in absurd (cc);
          stays = λ _. refl;
        },
      )

  pub allows_revisit : (slots id : ℕ) (p : Part) (me : Me (Unit {0}) View) → me ≡ (front_alone p, []) → own_runs p.lives ≡ true → Allows (Ruled engines) slots id me 1 (λ n. n) (Revisited me)
  allows_revisit slots id p me e runs =
      subst (λ m. Allows (Ruled engines) slots id m 1 (λ n. n) (Revisited m)) (sym e)
      (λ s r homes at small. revisits (r.board.generation == length p.seen) slots id p s r refl runs at)

  may_here : (x : Entry) (h p : Part) (b : Board) → h.seen ≡ b.history → MayAppend x h.seen h.lives p.lives → MayAppend x b.history h.lives p.lives
  may_here x h p b same may = subst (λ y. MayAppend x y h.lives p.lives) same may

  pub allows_append : (slots id : ℕ) (x : Entry) (h p : Part) (me : Me (Unit {0}) View)
      → me ≡ (both h p, [])
      → MayAppend x h.seen h.lives p.lives
      → length h.seen < 2 ^ 49
      → Allows (Ruled engines) slots id me 1 (λ n. (n + 1) % 2 ^ 64) (Tells (after_append x) me)
  allows_append slots id x h p me is may room =
      subst (λ m. Allows (Ruled engines) slots id m 1 (λ n. (n + 1) % 2 ^ 64) (Tells (after_append x) m)) (sym is)
      (allowed slots id (both h p, []) (λ n. (n + 1) % 2 ^ 64) (Tells (after_append x) (both h p, []))
      (λ b vs k at.
      let found = found_length b vs id h p k at in
      let next : (b.generation + 1) % 2 ^ 64 ≡ b.generation + 1 = omega (arith, found, room) in (
        append id x,
        record { floor = b.floor; generation = b.generation + 1; pins = b.pins; history = b.history ++ x ∷ [] },
        after_append x (both h p),
        (h, p, at, may_here x h p b (k.seats id (both h p) at).hub.0 may, refl, refl),
        ap (λ n. b.floor ∷ n ∷ b.pins) (sym next),
        record { found_is = found; view = refl; fits = fits b vs id h p k at },
      )))

  -- A load that changes nothing

  at_most_one : (c : Bool) → one_if c ≤ 1
  at_most_one true = omega arith
  at_most_one false = omega arith

  pub allows_same : (slots id : ℕ) (me : Me (Unit {0}) View) → Allows (Ruled engines) slots id me 1 (λ n. n) (λ _ new. Compared me new)
  allows_same slots id me s r homes at small =
      let k = reached_kept engines r.steps r.board s.views r.reached in (
        me.0,
        keeps,
        tt,
        record {
          board = r.board;
          words = ap (λ ws. slice_set ws 1 (slice_index ws 1)) r.words;
          steps = r.steps;
          reached = subst (Reached engines r.steps r.board) (sym (set_again s.views id me.0 at)) r.reached;
        },
        record {
          same = refl;
          once = λ e. omega (arith, total-at (carried e) s.views id me.0 at, k.carried_once e, at_most_one (has_begun r.board.history e));
        },
      )

  pub allows_nothing : (slots id : ℕ) (h p : Part) (me : Me (Unit {0}) View) → me ≡ (both h p, []) → Allows (Ruled engines) slots id me 1 (λ n. n) (Tells after_nothing me)
  allows_nothing slots id h p me e = subst (λ m. Allows (Ruled engines) slots id m 1 (λ n. n) (Tells after_nothing m)) (sym e) told
    where
      told : Allows (Ruled engines) slots id (both h p, []) 1 (λ n. n) (Tells after_nothing (both h p, []))
      told s r homes at small =
          let k = reached_kept engines r.steps r.board s.views r.reached in
          let found : slice_index s.words 1 ≡ r.board.generation = ap (λ ws. slice_index ws 1) r.words in (
            both h p,
            keeps,
            tt,
            record {
              board = r.board;
              words = ap (λ ws. slice_set ws 1 (slice_index ws 1)) r.words;
              steps = r.steps;
              reached = subst (Reached engines r.steps r.board) (sym (set_again s.views id (both h p) at)) r.reached;
            },
            record { found_is = found ∙ found_length r.board s.views id h p k at; view = refl; fits = fits r.board s.views id h p k at },
          )

  -- Two fronts

  informs : (slots id : ℕ) (p q : Part) → Allows (Ruled engines) slots id (two_fronts p q, []) 1 (λ n. n) (λ _ new. Informed (two_fronts p q, []) new)
  informs slots id p q s r homes at small =
      let k = reached_kept engines r.steps r.board s.views r.reached in (
        two_fronts p (told_by p q),
        keeps,
        tt,
        record {
          board = r.board;
          words = ap (λ ws. slice_set ws 1 (slice_index ws 1)) r.words;
          steps = inform id ∷ r.steps;
          reached = (r.board, s.views, r.reached, (p, q, at, refl, refl));
        },
        record { view = refl; history = r.board.history; seen = (k.seats id (two_fronts p q) at).fronts },
      )

  pub allows_inform : (slots id : ℕ) (p q : Part) (me : Me (Unit {0}) View) → me ≡ (two_fronts p q, []) → Allows (Ruled engines) slots id me 1 (λ n. n) (λ _ new. Informed me new)
  allows_inform slots id p q me e = subst (λ (m : Me (Unit {0}) View). Allows (Ruled engines) slots id m 1 (λ n. n) (λ _ new. Informed m new)) (sym e) (informs slots id p q)

  -- A new front, and the table as it is made

  pub enters : (slots : ℕ) → Enters (Ruled engines) slots 0 (λ n w. ◌≡◌ {A = Me (Unit {0}) View} (w, []) (front_alone newcomer, []))
  enters slots s r homes small = (
    front_alone newcomer,
    record { board = r.board; words = r.words; steps = make ∷ r.steps; reached = (r.board, s.views, r.reached, (refl, refl)) },
    refl,
  )

  pub opens : (ws : List ℕ) → ws ≡ 0 ∷ 0 ∷ replicate engines 0 → Ruled engines (opening ws [] (hub_alone at_start))
  opens ws e =
      record {
        board = record { floor = 0; generation = 0; pins = replicate engines 0; history = [] };
        words = e;
        steps = [];
        reached = record { board = refl; views = refl };
      }

-- Views of badges

pub one_view : (vs : List View) (v w : View) → vs ≡ v ∷ [] → vs ≡ w ∷ [] → v ≡ w
one_view vs v w a b = let e : v ∷ [] ≡ w ∷ [] = sym a ∙ b in cc

pub me_alone : (me : Me (Unit {0}) View) (vs : List View) (p : Part) → vs ≡ me.0 ∷ [] → me.1 ≡ [] → vs ≡ front_alone p ∷ [] → me ≡ (front_alone p, [])
me_alone me vs p views none is =
    let alone : me ≡ (front_alone p, me.1) = ap (λ (v : View). (v, me.1)) (one_view vs me.0 (front_alone p) views is) in
    alone ∙ ap (λ (cs : List (ℕ × Unit {0})). (front_alone p, cs)) none

pub view_again : (me : Me (Unit {0}) View) (h p : Part) → me ≡ (both h p, []) → me ≡ (both (hub_of me.0) (front_of me.0), [])
view_again me h p e = subst (λ (m : Me (Unit {0}) View). m ≡ (both (hub_of m.0) (front_of m.0), [])) (sym e) refl

pub once_of : (me : Me (Unit {0}) View) (v w : View) (c : List (ℕ × Unit {0})) (p q : Part) (e : ℕ)
    → me ≡ (beside v w, c)
    → v ≡ front_alone p
    → w ≡ front_alone q
    → carried e me.0 ≤ 1
    → times e p.lives + times e q.lives ≤ 1
once_of me v w c p q e is ve we le =
    let same : carried e me.0 ≡ carried e (beside (front_alone p) (front_alone q)) =
    ap (λ (m : Me (Unit {0}) View). carried e m.0) is ∙ ap (λ y. carried e (beside y w)) ve ∙ ap (λ y. carried e (beside (front_alone p) y)) we
    in omega (arith, same, le)

pub once_with_hub : (me : Me (Unit {0}) View) (h p : Part) (e : ℕ) → me ≡ (both h p, []) → carried e me.0 ≤ 1 → times e h.lives + times e p.lives ≤ 1
once_with_hub me h p e is le =
    let same : carried e me.0 ≡ carried e (both h p) = ap (λ (m : Me (Unit {0}) View). carried e m.0) is in omega (arith, same, le)

pub two_more : (n : ℕ) → replicate {A = ℕ} (n + 2) 0 ≡ 0 ∷ 0 ∷ replicate n 0
two_more n = let more : n + 2 ≡ suc (suc n) = omega arith in ap (λ m. replicate {A = ℕ} m 0) more

-- Two fronts in one view

pub two_of : (me : Me (Unit {0}) View) (v w : View) (c : List (ℕ × Unit {0})) (p q : Part) → me ≡ (beside v w, c) → c ≡ [] → v ≡ front_alone p → w ≡ front_alone q → me ≡ (two_fronts p q, [])
two_of me v w c p q is none ve we =
    is
    ∙ (ap (λ (y : View). (beside y w, c)) ve
    ∙ (ap (λ (y : View). (beside (front_alone p) y, c)) we ∙ ap (λ (d : List (ℕ × Unit {0})). (two_fronts p q, d)) none))

-- Of two beginnings of one history the shorter begins the longer

pub shorter : (xs ys h : History) → IsPrefix xs h → IsPrefix ys h → length xs ≤ length ys → IsPrefix xs ys
shorter [] ys h p q le = (ys, refl)
shorter (x ∷ xs) [] h p q le = absurd (omega (arith, le))
shorter (x ∷ xs) (y ∷ ys) [] p q le = absurd (let e : x ∷ (xs ++ p.0) ≡ [] = p.1 in cc)
shorter (x ∷ xs) (y ∷ ys) (z ∷ h) p q le =
    let d : x ∷ (xs ++ p.0) ≡ z ∷ h = p.1 in
    let e : y ∷ (ys ++ q.0) ≡ z ∷ h = q.1 in
    let same : x ≡ y = cc in
    let left : xs ++ p.0 ≡ h = cc in
    let right : ys ++ q.0 ≡ h = cc in
    let rest = shorter xs ys h (p.0, left) (q.0, right) (omega (arith, le)) in
    (rest.0, ap (λ (w : Entry). w ∷ (xs ++ rest.0)) same ∙ ap (λ (ws : History). y ∷ ws) rest.1)

pub seen_in : (v : View) (p q : Part) (h : History) → v ≡ two_fronts p q → AllSee h v.fronts → length q.seen ≤ length p.seen → IsPrefix q.seen p.seen
seen_in v p q h is all le =
    let both : AllSee h (p ∷ q ∷ []) = subst (λ (y : View). AllSee h y.fronts) is all in shorter q.seen p.seen h both.2.0 both.0 le
