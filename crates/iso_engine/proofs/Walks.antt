-- One step more of a slice.
use Rattle.std.proofs.Common.{◌≡◌, ℕ, suc, ◌+◌, ◌-◌, ◌<◌, ◌≤◌, ◌⊎◌, inl, inr, List, [], ◌∷◌, ◌++◌, Option, None, Some, false, refl, sym, ap, ap₂, subst, ◌∙◌, arith, append-nil, append_assoc}
use Rattle.std.specs.Prelude.{encode_utf8_all}
use Rattle.std.specs.Char.{encode_utf8}
use Rattle.pl_term.specs.Tree.{Chars}
use Rattle.pl_model.specs.Resolution.{Output, text, solution, solution_count}
use Rattle.atom_api.specs.Names.{Names}
use Rattle.atom_words.specs.declared.view.Refusal.{Refusal}
use Rattle.world_api.specs.Texts.{Holds}
use Rattle.world_api.specs.Told.{Told, has_ended}
use Rattle.iso_engine.specs.declared.engine.Engine.{Engine}
use Rattle.iso_engine.specs.Advancing.{Advances}
use Rattle.iso_engine.specs.Ready.{IsReady}
use Rattle.iso_engine.specs.declared.slices.Slice.{Slice}
use Rattle.iso_engine.specs.declared.slices.Slice.TheVariants.{Yield, Solution, NeedsAtoms, Retry, Worn, Waits, Ended, Memory}
use Rattle.iso_engine.specs.Slices.{EndsWith, IsSlice, IsSliced, IsStepped, steps_of, written_text}
use Rattle.iso_engine.specs.Unserved.{IsRefusedBy, refusals_of, stopped_refusals}
use Rattle.iso_engine.specs.Spending.{IsSpent}
use Rattle.iso_engine.specs.Walking.{IsWalk}
use Rattle.iso_engine.proofs.Stability.{advance_none, advance_then}

encode-append : (xs ys : Chars) → encode_utf8_all (xs ++ ys) ≡ encode_utf8_all xs ++ encode_utf8_all ys
encode-append [] ys = refl
encode-append (x ∷ xs) ys =
    ap (λ l. encode_utf8 x ++ l) (encode-append xs ys) ∙ sym (append_assoc (encode_utf8 x) (encode_utf8_all xs) (encode_utf8_all ys))

written-append : (xs ys : List Output) → written_text (xs ++ ys) ≡ written_text xs ++ written_text ys
written-append [] ys = refl
written-append (text t ∷ xs) ys = ap (λ l. t ++ l) (written-append xs ys) ∙ sym (append_assoc t (written_text xs) (written_text ys))
written-append (solution ops ts ∷ xs) ys = written-append xs ys

pub bytes-append : (a b c : List ℕ) (xs ys : List Output) → b ≡ a ++ encode_utf8_all (written_text xs) → c ≡ b ++ encode_utf8_all (written_text ys)
    → c ≡ a ++ encode_utf8_all (written_text (xs ++ ys))
bytes-append a b c xs ys first second =
    second
    ∙ ap (λ l. l ++ encode_utf8_all (written_text ys)) first
    ∙ append_assoc a (encode_utf8_all (written_text xs)) (encode_utf8_all (written_text ys))
    ∙ ap (λ l. a ++ l) (sym (encode-append (written_text xs) (written_text ys)) ∙ ap encode_utf8_all (sym (written-append xs ys)))

-- The begin of a slice.
pub walk_begins : (limit : ℕ) (m : Names) (t : Told) (e : Engine) (a : List ℕ) → has_ended t.engine t.history ≡ false → IsReady m t e → IsWalk limit 0 m t e m t e a a
walk_begins limit m t e a runs ready =
    record {
      runs = runs;
      ready = ready;
      written = [];
      advances = advance_none m t e;
      out = sym (append-nil a);
      low = omega arith;
      high = omega arith;
      holds = λ i x h. h;
      given = refl;
    }

-- A step more.
pub walk_on : (limit k : ℕ) (m n r : Names) (t u w : Told) (e f g : Engine) (a b c : List ℕ) (more : List Output)
    → IsWalk limit k m t e n u f a b
    → Advances 1 n u f r w g more
    → c ≡ b ++ encode_utf8_all (written_text more)
    → has_ended w.engine w.history ≡ false
    → IsReady r w g
    → Holds n r
    → IsSpent f.search.inferences g.search.inferences
    → g.solutions_found ≡ f.solutions_found
    → f.search.inferences < e.search.inferences + limit
    → IsWalk limit (1 + k) m t e r w g a c
walk_on limit k m n r t u w e f g a b c more walk step out runs ready holds spent given below =
    record {
      runs = runs;
      ready = ready;
      written = walk.written ++ more;
      advances = advance_then k 1 m n r t u w e f g walk.written more walk.advances step;
      out = bytes-append a b c walk.written more walk.out out;
      low = lower spent walk.low;
      high = higher spent below;
      holds = λ i x h. holds i x (walk.holds i x h);
      given = given ∙ walk.given;
    }
  where
    lower : (g.search.inferences ≡ f.search.inferences) ⊎ (g.search.inferences ≡ suc f.search.inferences) → e.search.inferences ≤ f.search.inferences → e.search.inferences ≤ g.search.inferences
    lower (inl p) le = omega (arith, p, le)
    lower (inr p) le = omega (arith, p, le)

    higher : (g.search.inferences ≡ f.search.inferences) ⊎ (g.search.inferences ≡ suc f.search.inferences) → f.search.inferences < e.search.inferences + limit → g.search.inferences ≤ e.search.inferences + limit
    higher (inl p) lt = omega (arith, p, lt)
    higher (inr p) lt = omega (arith, p, lt)

-- The engine stands where it stood.
pub walk_stays : (limit k : ℕ) (m n r : Names) (t u w : Told) (e f g : Engine) (a b : List ℕ)
    → IsWalk limit k m t e n u f a b
    → Advances 0 n u f r w g []
    → has_ended w.engine w.history ≡ false
    → IsReady r w g
    → Holds n r
    → g.search.inferences ≡ f.search.inferences
    → g.solutions_found ≡ f.solutions_found
    → IsWalk limit k m t e r w g a b
walk_stays limit k m n r t u w e f g a b walk still runs ready holds count given =
    record {
      runs = runs;
      ready = ready;
      written = walk.written ++ [];
      advances = subst (λ (j : ℕ). Advances j m t e r w g (walk.written ++ [])) none (advance_then k 0 m n r t u w e f g walk.written [] walk.advances still);
      out = bytes-append a b b walk.written [] walk.out (sym (append-nil b));
      low = (let p = walk.low in omega (arith, p, count));
      high = (let p = walk.high in omega (arith, p, count));
      holds = λ i x h. holds i x (walk.holds i x h);
      given = given ∙ walk.given;
    }
  where
    none : 0 + k ≡ k
    none = omega arith

-- Nothing ended the slice.
pub went_on : (n r : Names) (u w : Told) (f g : Engine) (b c : List ℕ) (o : Option Slice)
    → (more : List Output) × IsStepped n u f o r w g more × (c ≡ b ++ encode_utf8_all (written_text more))
    → o ≡ None
    → (more : List Output) × Advances 1 n u f r w g more × (c ≡ b ++ encode_utf8_all (written_text more))
went_on n r u w f g b c o h is =
    let went = subst (λ (x : Option Slice). (more : List Output) × IsStepped n u f x r w g more × (c ≡ b ++ encode_utf8_all (written_text more))) is h in went

-- No solution was given where the count stayed.
none_given : (a b k : ℕ) → b ≡ a + k → b ≡ a → k ≡ 0
none_given a b k h same = omega (arith, h, same)

-- The slice ends with this.
module _ (limit i : ℕ) (m n r : Names) (t u w : Told) (e f g : Engine) (a b c : List ℕ) (walk : IsWalk limit i m t e n u f a b)
    (spent : IsSpent f.search.inferences g.search.inferences) (below : f.search.inferences < e.search.inferences + limit) where
  within : (g.search.inferences ≡ f.search.inferences) ⊎ (g.search.inferences ≡ suc f.search.inferences) → g.search.inferences ≤ e.search.inferences + limit
  within (inl p) = omega (arith, p, below)
  within (inr p) = omega (arith, p, below)

  ended : (k : ℕ) (more : List Output) (s : Slice) → Advances k n u f r w g more → c ≡ b ++ encode_utf8_all (written_text more)
      → EndsWith limit e r w g (walk.written ++ more) s
      → IsSlice limit (k + i) m t e r w g a c s
  ended k more s step out ends =
      record {
        written = walk.written ++ more;
        advances = advance_then i k m n r t u w e f g walk.written more walk.advances step;
        out = bytes-append a b c walk.written more walk.out out;
        spent = within spent;
        ends = ends;
      }

  silent : solution_count walk.written ≡ 0
  silent = none_given e.solutions_found f.solutions_found (solution_count walk.written) walk.advances.given walk.given

  nothing : (more : List Output) → more ≡ [] → solution_count (walk.written ++ more) ≡ 0
  nothing more is = ap (λ l. solution_count (walk.written ++ l)) is ∙ ap solution_count (append-nil walk.written) ∙ silent

  pub slice_ends : (s : Slice) → (more : List Output) × IsStepped n u f (Some s) r w g more × (c ≡ b ++ encode_utf8_all (written_text more)) → IsSlice limit (steps_of (Some s) + i) m t e r w g a c s
  slice_ends Yield (more, h, out) = absurd h.1
  slice_ends (Solution ops) (more, h, out) = ended 1 more (Solution ops) h.2 out (walk.written, silent, ap (λ l. walk.written ++ l) h.0, h.1, h.3)
  slice_ends (NeedsAtoms p) (more, h, out) = ended 0 more (NeedsAtoms p) h.2 out (h.1, nothing more h.0)
  slice_ends (Retry q) (more, h, out) = ended 0 more (Retry q) h.2 out (h.1, nothing more h.0)
  slice_ends (Worn q) (more, h, out) = ended 0 more (Worn q) h.2 out (h.1, nothing more h.0)
  slice_ends (Waits on q) (more, h, out) = ended 0 more (Waits on q) h.2 out (h.1, nothing more h.0)
  slice_ends Ended (more, h, out) = ended 0 more Ended h.2 out (h.1, nothing more h.0)
  slice_ends Memory (more, h, out) = absurd h.1

-- So many inferences were made.
pub slice_yields : (limit k : ℕ) (m n : Names) (t u : Told) (e f : Engine) (a b : List ℕ) → IsWalk limit k m t e n u f a b → limit ≤ f.search.inferences - e.search.inferences
    → IsSlice limit k m t e n u f a b Yield
slice_yields limit k m n t u e f a b walk enough =
    record {
      written = walk.written;
      advances = walk.advances;
      out = walk.out;
      spent = walk.high;
      ends = (
        (let p = walk.low in let q = walk.high in omega (arith, p, q, enough)),
        none_given e.solutions_found f.solutions_found (solution_count walk.written) walk.advances.given walk.given,
      );
    }

pub sliced_by : (limit : ℕ) (m n : Names) (t u : Told) (e f : Engine) (a b : List ℕ) (before after : ℕ) (s : Slice)
    → (k : ℕ) × (k + before ≡ after) × IsSlice limit k m t e n u f a b s
    → IsSliced limit m t e n u f a b before after s
sliced_by limit m n t u e f a b before after Yield h = h
sliced_by limit m n t u e f a b before after (Solution ops) h = h
sliced_by limit m n t u e f a b before after (NeedsAtoms p) h = h
sliced_by limit m n t u e f a b before after (Retry c) h = h
sliced_by limit m n t u e f a b before after (Worn w) h = h
sliced_by limit m n t u e f a b before after (Waits on g) h = h
sliced_by limit m n t u e f a b before after Ended h = h
sliced_by limit m n t u e f a b before after Memory h = absurd h.2.ends.0

pub refused_by : (xs ys : List Refusal) (s : Slice) → ys ≡ xs ++ refusals_of s → IsRefusedBy s xs ys
refused_by xs ys Yield h = h
refused_by xs ys (Solution ops) h = h
refused_by xs ys (NeedsAtoms p) h = h
refused_by xs ys (Retry c) h = h
refused_by xs ys (Worn w) h = h
refused_by xs ys (Waits on g) h = h
refused_by xs ys Ended h = h
refused_by xs ys Memory h = tt

pub none_refused : (xs ys zs : List Refusal) (o : Option Slice) → ys ≡ xs → zs ≡ ys ++ stopped_refusals o → o ≡ None → zs ≡ xs
none_refused xs ys zs o first second is = second ∙ ap (λ x. ys ++ stopped_refusals x) is ∙ append-nil ys ∙ first

pub some_refused : (xs ys zs : List Refusal) (o : Option Slice) (s : Slice) → ys ≡ xs → zs ≡ ys ++ stopped_refusals o → o ≡ Some s → zs ≡ xs ++ refusals_of s
some_refused xs ys zs o s first second is = second ∙ ap₂ (λ l x. l ++ stopped_refusals x) first is
