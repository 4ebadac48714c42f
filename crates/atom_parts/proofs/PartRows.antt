-- Answers of sub_atom/5 by lines of its table.
use Rattle.std.proofs.Common.{◌≡◌, ℕ, suc, ◌+◌, ◌-◌, ◌≤◌, true, List, [], ◌∷◌, length, take, drop, Option, Some, None, refl, sym, ap, ap₂, subst, ◌∙◌, arith}
use Rattle.std.specs.List.{All, Contains}
use Rattle.std.proofs.lemmas.List.Elements.{All-cons, All-head, All-nil, All-tail}
use Rattle.pl_term.specs.Tree.{Chars, Trees, atom}
use Rattle.pl_model.specs.AtomBuiltins.{five}
use Rattle.pl_model.specs.BuiltinRows.{Answer, unifying}
use Rattle.pl_model.specs.Checks.{text_of_atom}
use Rattle.atom_api.specs.Names.{Names}
use Rattle.term_store.specs.declared.words.Place.{Place}
use Rattle.term_store.specs.Contents.{Contents, Holds}
use Rattle.world_api.specs.Asked.{texts_in_all}
use Rattle.world_api.specs.Gains.{Gains}
use Rattle.world_builtins.specs.Naming.{IsHeldAt}
use Rattle.world_builtins.specs.Spelling.{reads}
use Rattle.builtin_rows.specs.declared.row.Row.{Row}
use Rattle.builtin_rows.specs.declared.row.Row.TheVariants.{Fails}
use Rattle.builtin_rows.specs.Rows.{IsLine}
use Rattle.atom_parts.specs.declared.columns.Column.{Column}
use Rattle.atom_parts.specs.declared.columns.Value.{Value}
use Rattle.atom_parts.specs.declared.columns.Value.TheVariants.{Number, Part}
use Rattle.atom_parts.specs.declared.columns.Wanted.TheVariants.{Is}
use Rattle.atom_parts.specs.declared.parts.Parts.{Parts}
use Rattle.atom_parts.specs.declared.parts.Spot.{Spot}
use Rattle.atom_parts.specs.Columns.{does_unify, value_tree, values_of, wanted_tree}
use Rattle.atom_parts.specs.Following.{IsFollowing}
use Rattle.atom_parts.specs.Lined.{AreParts, AsksFromLine, IsFromLine, five_at}
use Rattle.atom_parts.specs.Parts.{IsNextSpot, IsPart, line_at, part_columns, part_line, part_wanted, parts_of}
use Rattle.atom_parts.specs.Tables.{AreGiven, IsLined, IsShort}
use Rattle.atom_parts.proofs.ColumnLaws.{wanted_there}
use Rattle.atom_parts.proofs.LineLaws.{line_asks, line_of, lined_row, part_short}
use Rattle.atom_parts.proofs.PartLaws.{part_values}

-- What is wanted are the arguments.
pub parts_are : (m : Names) (s : Contents) (whole before count after part : Place) (text : Chars) (w : Parts) → AreParts m s whole before count after part text w
    → five_at m s whole before count after part ≡ part_wanted text w
parts_are m s whole before count after part text w is =
    let a = atom (take w.length text) in
    let b = wanted_tree text w.before in
    ap₂ (λ t u. five t u (reads m s count) (reads m s after) (reads m s part)) is.whole_is is.before_is
    ∙ ap₂ (λ t u. five a b t u (reads m s part)) is.count_is is.after_is ∙ ap (five a b (wanted_tree text w.count) (wanted_tree text w.after)) is.part_is

pub whole_part : (m : Names) (s : Contents) (whole before count after part : Place) (text : Chars) (w : Parts) → AreParts m s whole before count after part text w
    → text_of_atom (reads m s whole) ≡ take w.length text
whole_part m s whole before count after part text w is = ap text_of_atom is.whole_is

pub part_lined : (text : Chars) (w : Parts) → w.length ≤ length text → (from : ℕ) (p : Spot) (o : Option ℕ)
    → IsNextSpot (part_wanted text w) (take w.length text) from (Some p) → p.before + p.count ≤ w.length
    → IsFollowing (part_wanted text w) (parts_of (take w.length text)) (suc (line_at p)) o
    → IsLine (part_wanted text w) (parts_of (take w.length text)) from (values_of text (part_columns w p)) o
part_lined text w within from p o is le after =
    subst (λ (vs : Trees). IsLine (part_wanted text w) (parts_of (take w.length text)) from vs o) (sym (part_values text w within p le))
    (line_of (part_wanted text w) (parts_of (take w.length text)) from (suc (line_at p)) (part_line (take w.length text) p.before p.count).terms o is after)

module _ (m : Names) (s : Contents) (whole before count after part : Place) (text : Chars) (w : Parts) (p : Spot) (is : AreParts m s whole before count after part text w) where
  abbrev first : Column
  first = record { wanted = Is (Part 0 w.length); value = Part 0 w.length }

  abbrev second : Column
  second = record { wanted = w.before; value = Number p.before }

  abbrev third : Column
  third = record { wanted = w.count; value = Number p.count }

  abbrev fourth : Column
  fourth = record { wanted = w.after; value = Number (w.length - p.before - p.count) }

  abbrev fifth : Column
  fifth = record { wanted = w.part; value = Part p.before p.count }

  -- The columns have what their arguments are.
  pub part_given : Holds s whole → Holds s before → Holds s count → Holds s after → Holds s part
      → IsHeldAt m s whole → IsHeldAt m s before → IsHeldAt m s count → IsHeldAt m s after → IsHeldAt m s part
      → does_unify text (part_columns w p) ≡ true
      → AreGiven m s text (part_columns w p) (whole ∷ (before ∷ (count ∷ (after ∷ (part ∷ [])))))
  part_given hw hb hc ha hp mw mb mc ma mp met =
      let P : Column → Type 0 = λ (c : Column). (v : Value) → c.wanted ≡ Is v → value_tree text v ≡ value_tree text c.value in
      let all : All P (first ∷ (second ∷ (third ∷ (fourth ∷ (fifth ∷ []))))) = wanted_there text (part_columns w p) met in
      let from_second = All-tail P first (second ∷ (third ∷ (fourth ∷ (fifth ∷ [])))) all in
      let from_third = All-tail P second (third ∷ (fourth ∷ (fifth ∷ []))) from_second in
      let from_fourth = All-tail P third (fourth ∷ (fifth ∷ [])) from_third in
      let from_fifth = All-tail P fourth (fifth ∷ []) from_fourth in (
        record { inside = hw; held = mw; wanted = is.whole_is; there = All-head P first (second ∷ (third ∷ (fourth ∷ (fifth ∷ [])))) all },
        (
          record { inside = hb; held = mb; wanted = is.before_is; there = All-head P second (third ∷ (fourth ∷ (fifth ∷ []))) from_second },
          (
            record { inside = hc; held = mc; wanted = is.count_is; there = All-head P third (fourth ∷ (fifth ∷ [])) from_third },
            (
              record { inside = ha; held = ma; wanted = is.after_is; there = All-head P fourth (fifth ∷ []) from_fourth },
              (record { inside = hp; held = mp; wanted = is.part_is; there = All-head P fifth [] from_fifth }, tt),
            ),
          ),
        ),
      )

  pub parts_short : p.before + p.count ≤ w.length → All (IsShort text) (part_columns w p)
  parts_short le =
      let P : Column → Type 0 = IsShort text in
      All-cons P first (second ∷ (third ∷ (fourth ∷ (fifth ∷ [])))) is.short
      (All-cons P second (third ∷ (fourth ∷ (fifth ∷ []))) (omega (arith, le, is.small))
      (All-cons P third (fourth ∷ (fifth ∷ [])) (omega (arith, le, is.small))
      (All-cons P fourth (fifth ∷ []) (omega (arith, le, is.small))
      (All-cons P fifth [] (part_short text w.length p.before p.count le is.short) (All-nil P)))))

-- The row of a line.
module _ (m : Names) (s : Contents) (whole before count after part : Place) (text : Chars) (w : Parts) (line : ℕ) (is : AreParts m s whole before count after part text w) where
  abbrev arguments : Trees
  arguments = five_at m s whole before count after part

  abbrev lines : List Answer
  lines = parts_of (text_of_atom (reads m s whole))

  abbrev places : List Place
  places = whole ∷ (before ∷ (count ∷ (after ∷ (part ∷ []))))

  at_arguments : (P : Trees → List Answer → Type 0) → P (part_wanted text w) (parts_of (take w.length text)) → P arguments lines
  at_arguments P h =
      subst (λ (ts : Trees). P ts lines) (sym (parts_are m s whole before count after part text w is))
      (subst (λ (cs : Chars). P (part_wanted text w) (parts_of cs)) (sym (whole_part m s whole before count after part text w is)) h)

  pub part_stands : (n : Names) (p : Spot) (o : Option ℕ) (cs : List Column) (r : Row) → Holds s whole → Holds s before → Holds s count → Holds s after → Holds s part
      → IsHeldAt m s whole → IsHeldAt m s before → IsHeldAt m s count → IsHeldAt m s after → IsHeldAt m s part
      → IsNextSpot (part_wanted text w) (take w.length text) line (Some p) → IsPart text w (Some p)
      → IsFollowing (part_wanted text w) (parts_of (take w.length text)) (suc (line_at p)) o
      → cs ≡ part_columns w p → IsLined m n text cs places o r → IsFromLine s arguments lines line n r
  part_stands n p o cs r hw hb hc ha hp mw mb mc ma mp found at later same lined =
      at_arguments (λ ts xs. IsFromLine s ts xs line n r)
      (lined_row m n s text (part_columns w p) places o r (part_wanted text w) (parts_of (take w.length text)) line
      (subst (λ (l : List Column). IsLined m n text l places o r) same lined)
      (part_given m s whole before count after part text w p is hw hb hc ha hp mw mb mc ma mp at.1.1)
      (part_lined text w is.within line p o found (at.0.within at.1.0) later))

  pub part_asks : (p : Spot) (o : Option ℕ) (cs : List Column) (old new : Option (List Chars))
      → IsNextSpot (part_wanted text w) (take w.length text) line (Some p) → IsPart text w (Some p)
      → IsFollowing (part_wanted text w) (parts_of (take w.length text)) (suc (line_at p)) o
      → cs ≡ part_columns w p → Gains (Contains (texts_in_all (values_of text cs))) old new → AsksFromLine arguments lines line old new
  part_asks p o cs old new found at later same gains =
      at_arguments (λ ts xs. AsksFromLine ts xs line old new)
      (line_asks (part_wanted text w) (parts_of (take w.length text)) line (values_of text (part_columns w p)) o old new
      (part_lined text w is.within line p o found (at.0.within at.1.0) later)
      (subst (λ (l : List Column). Gains (Contains (texts_in_all (values_of text l))) old new) same gains))

  pub part_none : (n : Names) → IsNextSpot (part_wanted text w) (take w.length text) line None → IsFromLine s arguments lines line n Fails
  part_none n none k = (at_arguments (λ ts xs. unifying ts (drop line xs) ≡ []) none, refl)
