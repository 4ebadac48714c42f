-- The columns of a line, and the places for them.
use Rattle.std.proofs.Common.{◌≡◌, ℕ, zero, suc, ◌+◌, ◌<◌, List, [], ◌∷◌, ◌++◌, length, map, take, get_or, Option, Result, Ok, refl, sym, ap, ap₂, subst, ◌∙◌, arith}
use Rattle.std.specs.List.{All, Contains}
use Rattle.std.proofs.lemmas.List.{map-append, take_more}
use Rattle.std.proofs.lemmas.List.Elements.{All-head, All-push, All-tail, All-weaker, Contains-append_left, Contains-append_right}
use Rattle.pl_term.specs.Tree.{Chars, Tree}
use Rattle.atom_api.specs.Names.{Names}
use Rattle.term_store.specs.declared.words.Place.{Place}
use Rattle.term_store.specs.Contents.{Contents, Holds}
use Rattle.world_api.specs.Asked.{texts_in, texts_in_all}
use Rattle.world_api.specs.Gains.{Gains}
use Rattle.world_api.specs.Texts.{Holds as Keeps}
use Rattle.world_api.proofs.Gaining.{gains_then, gains_weaker}
use Rattle.world_builtins.specs.Naming.{IsHeldAt}
use Rattle.world_builtins.specs.Spelling.{reads}
use Rattle.builtin_rows.specs.declared.row.Row.{Row}
use Rattle.builtin_rows.specs.declared.row.Row.TheVariants.{Answer, Ball, CellsFull, Fails, Holds as RowHolds, Line, NeedsAtoms, Retry, Worn}
use Rattle.builtin_atom.specs.Making.{IsAgain}
use Rattle.builtin_atom.proofs.Kept.{held_kept, reads_kept}
use Rattle.atom_parts.specs.declared.columns.Column.{Column}
use Rattle.atom_parts.specs.declared.tables.Placed.{Placed}
use Rattle.atom_parts.specs.declared.tables.Placed.TheVariants as placed
use Rattle.atom_parts.specs.Columns.{value_tree, values_of}
use Rattle.atom_parts.specs.Tables.{AreAt, AreGiven, IsAt, IsGiven, IsLined, column_refusals}

-- A column that stands hands on no refusal.
pub none_handed : {E : Type 0} (r : Result Placed E) (e : Placed) (p : Place) → r ≡ Ok e → e ≡ placed.At p → column_refusals r ≡ []
none_handed r e p is at = ap column_refusals (is ∙ ap Ok at)

-- Where the predicate is to be called again.
pub again_lined : (m n : Names) (text : Chars) (cs : List Column) (ps : List Place) (following : Option ℕ) (r : Row) → IsAgain r → IsLined m n text cs ps following r
again_lined m n text cs ps following (NeedsAtoms p) h = tt
again_lined m n text cs ps following (Retry p) h = tt
again_lined m n text cs ps following (Worn p) h = tt
again_lined m n text cs ps following Fails h = absurd h
again_lined m n text cs ps following RowHolds h = absurd h
again_lined m n text cs ps following (Answer qs f) h = absurd h
again_lined m n text cs ps following (Line qs next) h = absurd h
again_lined m n text cs ps following (Ball w) h = absurd h
again_lined m n text cs ps following (CellsFull used need) h = absurd h

-- The column at an index.
given_or : (m : Names) (s : Contents) (text : Chars) (cs : List Column) (ps : List Place) (i : ℕ) (d : Column) (e : Place) → i < length cs → AreGiven m s text cs ps
    → IsGiven m s text (get_or cs i d) (get_or ps i e)
given_or m s text [] ps i d e lt h = absurd (omega (arith, lt))
given_or m s text (c ∷ cs) [] i d e lt h = absurd h
given_or m s text (c ∷ cs) (p ∷ ps) zero d e lt h = h.0
given_or m s text (c ∷ cs) (p ∷ ps) (suc i) d e lt h = given_or m s text cs ps i d e (omega (arith, lt)) h.1

pub given_at : (m : Names) (s : Contents) (text : Chars) (cs : List Column) (ps : List Place) (i : ℕ) (c : Column) (p : Place) → i < length cs
    → ((d : Column) → get_or cs i d ≡ c) → ((e : Place) → get_or ps i e ≡ p) → AreGiven m s text cs ps → IsGiven m s text c p
given_at m s text cs ps i c p lt is at h =
    subst (λ (d : Column). IsGiven m s text d p) (is c) (subst (λ (q : Place). IsGiven m s text (get_or cs i c) q) (at p) (given_or m s text cs ps i c p lt h))

column_texts : (text : Chars) (cs : List Column) (i : ℕ) (d : Column) (x : Chars) → i < length cs → Contains (texts_in (value_tree text (get_or cs i d).value)) x
    → Contains (texts_in_all (values_of text cs)) x
column_texts text [] i d x lt h = absurd (omega (arith, lt))
column_texts text (c ∷ cs) zero d x lt h = Contains-append_left (texts_in (value_tree text c.value)) (texts_in_all (values_of text cs)) x h
column_texts text (c ∷ cs) (suc i) d x lt h =
    Contains-append_right (texts_in (value_tree text c.value)) (texts_in_all (values_of text cs)) x (column_texts text cs i d x (omega (arith, lt)) h)

-- The texts of one column more were asked.
pub asked_more : (text : Chars) (cs : List Column) (i : ℕ) (d : Column) (a b c : Option (List Chars)) → i < length cs → ((e : Column) → get_or cs i e ≡ d)
    → Gains (Contains (texts_in_all (values_of text cs))) a b
    → Gains (Contains (texts_in (value_tree text d.value))) b c → Gains (Contains (texts_in_all (values_of text cs))) a c
asked_more text cs i d a b c lt is g h =
    gains_then (Contains (texts_in_all (values_of text cs))) a b c g
    (gains_weaker (Contains (texts_in (value_tree text d.value))) (Contains (texts_in_all (values_of text cs))) b c
    (λ t k. column_texts text cs i d t lt (subst (λ (e : Column). Contains (texts_in (value_tree text e.value)) t) (sym (is d)) k)) h)

-- One column more
module _ (m n : Names) (keeps : Keeps m n) (s : Contents) (text : Chars) where
  abbrev value : Column → Tree
  value c = value_tree text c.value

  all_kept : (ps : List Place) → All (IsHeldAt m s) ps → map (reads n s) ps ≡ map (reads m s) ps
  all_kept [] h = refl
  all_kept (p ∷ ps) h =
      ap₂ (λ t ts. t ∷ ts) (reads_kept m n keeps s p (All-head (IsHeldAt m s) p ps h)) (all_kept ps (All-tail (IsHeldAt m s) p ps h))

  at_push : (cs : List Column) (ps : List Place) (c : Column) (p : Place) → AreAt m s text cs ps → IsAt n s text c p
      → AreAt n s text (cs ++ c ∷ []) (ps ++ p ∷ [])
  at_push cs ps c p a e =
      record {
        inside = All-push (Holds s) ps p a.inside e.inside;
        held = All-push (IsHeldAt n s) ps p (All-weaker (IsHeldAt m s) (IsHeldAt n s) (λ q h. held_kept m n keeps s q h) ps a.held) e.held;
        values =
            map-append (reads n s) ps (p ∷ [])
            ∙ ap₂ (λ xs x. xs ++ x ∷ []) (all_kept ps a.held ∙ a.values) e.value ∙ sym (map-append value cs (c ∷ []));
      }

  pub at_more : (cs : List Column) (i : ℕ) (d : Column) (ps : List Place) (p : Place) → i < length cs → ((e : Column) → get_or cs i e ≡ d)
      → AreAt m s text (take i cs) ps → IsAt n s text d p → AreAt n s text (take (i + 1) cs) (ps ++ p ∷ [])
  at_more cs i d ps p lt is a e =
      subst (λ (l : List Column). AreAt n s text l (ps ++ p ∷ [])) (sym (take_more cs i d lt ∙ ap (λ c. take i cs ++ c ∷ []) (is d)))
      (at_push (take i cs) ps d p a e)

  -- What was given is given still.
  pub given_kept : (c : Column) (p : Place) → IsGiven m s text c p → IsGiven n s text c p
  given_kept c p h =
      record { inside = h.inside; held = held_kept m n keeps s p h.held; wanted = reads_kept m n keeps s p h.held ∙ h.wanted; there = h.there }
