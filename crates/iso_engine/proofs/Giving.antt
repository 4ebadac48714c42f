-- What is given by the rows of places.
use Rattle.std.proofs.Common.{◌≡◌, ◌<◌, ◌≤◌, ◌⊎◌, inl, inr, ℕ, zero, ◌+◌, ◌^◌, Bool, true, false, cond, List, [], ◌∷◌, nat_lt, nat_le, Option, Vec, refl, sym, ap, ap₂, subst, ◌∙◌, arith}
use Rattle.std.specs.declared.alloc.Global.{Global}
use Rattle.std.proofs.lemmas.Bool.Decides.{leb_tells}
use Rattle.pl_term.specs.Tree.{Tree, Trees}
use Rattle.pl_model.specs.Balls.{error_ball, no_inferences}
use Rattle.pl_model.specs.BuiltinRows.{gives, table, error}
use Rattle.pl_model.specs.BuiltinRows as defined
use Rattle.pl_model.specs.History.{Proc}
use Rattle.atom_api.specs.Names.{Names}
use Rattle.term_store.specs.declared.words.Place.{Place}
use Rattle.term_store.specs.Contents.{Contents, Holds as IsIn}
use Rattle.world_builtins.specs.Naming.{IsHeldAt}
use Rattle.world_builtins.specs.Spelling.{reads}
use Rattle.builtin_rows.specs.declared.row.Places.{Places}
use Rattle.builtin_rows.specs.declared.row.Row.TheVariants.{Holds, Answer, Line, Ball, CellsFull}
use Rattle.builtin_rows.specs.Given.{Given, answered, full, given, lined, thrown}
use Rattle.builtin_rows.specs.Rows.{ArePlaced, IsRow, Makes, listed, terms_at}

module _ (s : Contents) (next : ℕ) (ts : Trees) (n : Names) (t : Contents) where
  pub holds_gives : (g : Given) → IsRow s next ts g n t Holds → (g ≡ answered (ts ∷ []) zero zero) × (t ≡ s)
  holds_gives (answered xs f k) h =
      (ap (λ ys. answered ys f k) h.0 ∙ ap₂ (answered (ts ∷ [])) h.1.0 h.1.1.0, h.1.1.1)
  holds_gives (lined us xs k) h = absurd h
  holds_gives (thrown b) h = absurd h
  holds_gives (full m) h = absurd h

  pub full_gives : (used need : ℕ) (g : Given) → IsRow s next ts g n t (CellsFull used need) → (g ≡ full need) × (t ≡ s)
  full_gives used need (answered xs f k) h = absurd h
  full_gives used need (lined us xs k) h = absurd h
  full_gives used need (thrown b) h = absurd h
  full_gives used need (full m) h = (ap full (sym h.1.0), h.1.1)

  pub ball_gives : (w : Place) (g : Given) → IsRow s next ts g n t (Ball w)
      → (g ≡ thrown (reads n t w)) × (Makes s next zero zero t × (IsIn t w × IsHeldAt n t w))
  ball_gives w (answered xs f k) h = absurd h
  ball_gives w (lined us xs k) h = absurd h
  ball_gives w (thrown b) h = (ap thrown h.0, h.1)
  ball_gives w (full m) h = absurd h

  pub answer_gives : (ps : Places) (fresh : ℕ) (g : Given) → IsRow s next ts g n t (Answer ps fresh)
      → (k : ℕ) × ((g ≡ answered (terms_at n t (listed ps) ∷ []) fresh k) × (Makes s next fresh k t × ArePlaced n t (listed ps)))
  answer_gives ps fresh (answered xs f k) h = (
    k,
    (
      ap₂ (λ ys m. answered ys m k) h.0 (sym h.1.0),
      (subst (λ m. Makes s next m k t) (sym h.1.0) h.1.1.0, h.1.1.1),
    ),
  )
  answer_gives ps fresh (lined us xs k) h = absurd h
  answer_gives ps fresh (thrown b) h = absurd h
  answer_gives ps fresh (full m) h = absurd h

  -- No line is given but by a table.
  no_line : (us : Trees) (f k : ℕ) (b : Tree) (need : ℕ) (ps : Vec Place Global) (following : Option ℕ) (c d : Bool)
      → IsRow s next ts (cond c (cond d (answered (us ∷ []) f k) (full need)) (thrown b)) n t (Line ps following) → ⊥
  no_line us f k b need ps following true true h = h
  no_line us f k b need ps following true false h = h
  no_line us f k b need ps following false d h = h

  pub line_gives : (p : Proc) (used budget : ℕ) (ps : Vec Place Global) (following : Option ℕ) (r : defined.Row)
      → IsRow s next ts (given p ts next used budget r) n t (Line ps following)
      → (xs : List defined.Answer) × (r ≡ table xs) × IsRow s next ts (lined ts xs zero) n t (Line ps following)
  unfolding given
  line_gives p used budget ps following (gives []) h = absurd h
  line_gives p used budget ps following (gives (a ∷ [])) h =
      absurd (no_line a.terms a.fresh a.made (error_ball no_inferences p) a.made ps following (nat_lt (next + a.fresh) (2 ^ 64)) (nat_le (used + a.made) budget) h)
  line_gives p used budget ps following (gives (a ∷ (b ∷ bs))) h = absurd h
  line_gives p used budget ps following (table xs) h = (xs, refl, h)
  line_gives p used budget ps following (error e) h = absurd h

-- So many cells more that are used, of a budget that has as many more.
at_most_beside : (a b c : ℕ) → nat_le (a + c) (b + c) ≡ nat_le a b
at_most_beside a b c = go (leb_tells (a + c) (b + c)) (leb_tells a b)
  where
    go : ((nat_le (a + c) (b + c) ≡ true) × (a + c ≤ b + c)) ⊎ ((nat_le (a + c) (b + c) ≡ false) × (b + c < a + c))
        → ((nat_le a b ≡ true) × (a ≤ b)) ⊎ ((nat_le a b ≡ false) × (b < a))
        → nat_le (a + c) (b + c) ≡ nat_le a b
    go (inl h) (inl k) = h.0 ∙ sym k.0
    go (inr h) (inr k) = h.0 ∙ sym k.0
    go (inl h) (inr k) = absurd (omega (arith, h.1, k.1))
    go (inr h) (inl k) = absurd (omega (arith, h.1, k.1))

pub given_beside : (p : Proc) (ts : Trees) (next used budget more : ℕ) (r : defined.Row)
    → given p ts next (used + more) (budget + more) r ≡ given p ts next used budget r
unfolding given
given_beside p ts next used budget more (gives []) = refl
given_beside p ts next used budget more (gives (a ∷ [])) =
    ap
    (λ q. cond (nat_lt (next + a.fresh) (2 ^ 64)) (cond q (answered (a.terms ∷ []) a.fresh a.made) (full a.made)) (thrown (error_ball no_inferences p)))
    (ap (λ k. nat_le k (budget + more)) (let n : used + more + a.made ≡ used + a.made + more = omega arith in n) ∙ at_most_beside (used + a.made) budget more)
given_beside p ts next used budget more (gives (a ∷ (b ∷ bs))) = refl
given_beside p ts next used budget more (table xs) = refl
given_beside p ts next used budget more (error e) = refl
