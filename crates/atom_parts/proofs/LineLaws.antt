-- Rows that are lines of tables.
use Rattle.std.proofs.Common.{◌≡◌, ℕ, zero, suc, ◌+◌, ◌<◌, ◌≤◌, ◌^◌, List, [], ◌∷◌, ◌++◌, length, take, drop, Option, Some, None, refl, sym, ap, subst, ◌∙◌, arith, length-append}
use Rattle.std.specs.List.{Contains}
use Rattle.std.specs.Prelude.{encode_utf8, encode_utf8_all}
use Rattle.std.proofs.Math.Seq.{take-add}
use Rattle.std.proofs.lemmas.Grind.{flat_map-append}
use Rattle.std.proofs.lemmas.List.{take-append-drop, take-take}
use Rattle.std.proofs.lemmas.List.Elements.{Contains-append_left}
use Rattle.pl_term.specs.Texts.{size}
use Rattle.pl_term.specs.Tree.{Chars, Trees, trees}
use Rattle.pl_model.specs.BuiltinRows.{Answer, plain_answer, table, unifying}
use Rattle.pl_model.specs.History.{Proc}
use Rattle.atom_api.specs.Names.{Names}
use Rattle.term_store.specs.declared.words.Place.{Place}
use Rattle.term_store.specs.Contents.{Contents}
use Rattle.world_api.specs.Asked.{texts_in_all}
use Rattle.world_api.specs.Gains.{Gains}
use Rattle.world_api.proofs.Gaining.{gains_nothing, gains_weaker}
use Rattle.builtin_rows.specs.declared.row.Row.{Row}
use Rattle.builtin_rows.specs.declared.row.Row.TheVariants.{Answer as RowAnswer, Ball, CellsFull, Fails, Holds, Line, NeedsAtoms, Retry, Worn}
use Rattle.builtin_rows.specs.Given.{given, given_texts, lined, terms_of, texts_of_all}
use Rattle.builtin_rows.specs.Rows.{IsLine, Makes, terms_at}
use Rattle.builtin_atom.specs.Answering.{AsksFor, IsRowOf}
use Rattle.builtin_atom.proofs.Rows.{charged_none, makes_charged}
use Rattle.atom_parts.specs.declared.columns.Column.{Column}
use Rattle.atom_parts.specs.Columns.{values_of}
use Rattle.atom_parts.specs.Following.{IsFollowing}
use Rattle.atom_parts.specs.Lined.{AsksFromLine, IsFromLine}
use Rattle.atom_parts.specs.Tables.{AreAt, AreGiven, IsLined}

makes_nothing : (next : ℕ) (s : Contents) → Makes s next zero zero s
makes_nothing next s = subst (λ t. Makes s next zero zero t) (charged_none s) (makes_charged next s 0)

-- The row with the columns of a line.
pub lined_row : (m n : Names) (s : Contents) (text : Chars) (cs : List Column) (ps : List Place) (following : Option ℕ) (r : Row) (us : Trees) (xs : List Answer) (line : ℕ)
    → IsLined m n text cs ps following r → AreGiven m s text cs ps → IsLine us xs line (values_of text cs) following → IsFromLine s us xs line n r
lined_row m n s text cs ps following (Line qs next) us xs line h given is k =
    let at : AreAt n s text cs qs.items = h.1 s given in (
      subst (λ (o : Option ℕ). IsLine us xs line (terms_at n s qs.items) o) (sym h.0)
          (subst (λ (vs : Trees). IsLine us xs line vs following) (ap trees (sym at.values)) is),
      (makes_nothing k s, record { inside = at.inside; held = at.held }),
    )
lined_row m n s text cs ps following (NeedsAtoms p) us xs line h given is k = refl
lined_row m n s text cs ps following (Retry p) us xs line h given is k = refl
lined_row m n s text cs ps following (Worn p) us xs line h given is k = refl
lined_row m n s text cs ps following Fails us xs line h given is k = absurd h
lined_row m n s text cs ps following Holds us xs line h given is k = absurd h
lined_row m n s text cs ps following (RowAnswer qs f) us xs line h given is k = absurd h
lined_row m n s text cs ps following (Ball w) us xs line h given is k = absurd h
lined_row m n s text cs ps following (CellsFull used need) us xs line h given is k = absurd h

-- A table without lines.
pub nothing_dropped : (k : ℕ) → drop k (let none : List Answer = [] in none) ≡ []
nothing_dropped zero = refl
nothing_dropped (suc k) = refl

pub no_lines : (s : Contents) (ts : Trees) (xs : List Answer) (line : ℕ) (n : Names) → xs ≡ [] → IsFromLine s ts xs line n Fails
no_lines s ts xs line n e k = (ap (λ (ys : List Answer). unifying ts (drop line ys)) e ∙ ap (unifying ts) (nothing_dropped line), refl)

-- A table as a row of the definition.
pub table_row : (s : Contents) (p : Proc) (ts : Trees) (xs : List Answer) (n : Names) (r : Row) → IsFromLine s ts xs 0 n r → IsRowOf s p ts (table xs) n s r
unfolding given
table_row s p ts xs n r h next below = h next

pub table_asks : (s : Contents) (p : Proc) (ts : Trees) (xs : List Answer) (old new : Option (List Chars)) → AsksFromLine ts xs 0 old new → AsksFor s p ts (table xs) old new
unfolding given
table_asks s p ts xs old new g =
    gains_weaker (Contains (given_texts (lined ts xs 0))) (λ c. (next : ℕ) → next < 2 ^ 64 → Contains (given_texts (given p ts next s.used s.budget (table xs))) c) old new
    (λ c h next below. h) g

-- The texts of a line that is an answer.
pub line_asks : (us : Trees) (xs : List Answer) (line : ℕ) (vs : Trees) (following : Option ℕ) (old new : Option (List Chars)) → IsLine us xs line vs following
    → Gains (Contains (texts_in_all vs)) old new → AsksFromLine us xs line old new
line_asks us xs line vs following old new is g =
    gains_weaker (Contains (texts_in_all vs)) (Contains (given_texts (lined us xs line))) old new
    (λ c h. subst (λ (l : List Answer). Contains (texts_of_all (terms_of l)) c) (sym is.first) (Contains-append_left (texts_in_all vs) (texts_of_all (terms_of is.later)) c h)) g

pub line_asks_nothing : (us : Trees) (xs : List Answer) (line : ℕ) (old new : Option (List Chars)) → new ≡ old → AsksFromLine us xs line old new
line_asks_nothing us xs line old new e = gains_nothing (Contains (given_texts (lined us xs line))) old new e

-- A line with those that follow.
pub line_of : (us : Trees) (xs : List Answer) (from k : ℕ) (vs : Trees) (o : Option ℕ) → unifying us (drop from xs) ≡ plain_answer vs ∷ unifying us (drop k xs)
    → IsFollowing us xs k o → IsLine us xs from vs o
line_of us xs from k vs None first following = record { later = unifying us (drop k xs); first = first; rest = following }
line_of us xs from k vs (Some j) first following = record { later = unifying us (drop k xs); first = first; rest = following }

-- A part of a short text is short.
sized : (xs ys : Chars) → size (xs ++ ys) ≡ size xs + size ys
sized xs ys = ap length (flat_map-append encode_utf8 xs ys) ∙ length-append (encode_utf8_all xs) (encode_utf8_all ys)

pub part_short : (text : Chars) (len at k : ℕ) → at + k ≤ len → size (take len text) ≤ 248 → size (take k (drop at text)) ≤ 248
part_short text len at k le short =
    let front : take (at + k) (take len text) ≡ take (at + k) text = take-take (at + k) len text le in
    let whole : size (take len text) ≡ size (take (at + k) (take len text)) + size (drop (at + k) (take len text)) =
    ap size (sym (take-append-drop (at + k) (take len text))) ∙ sized (take (at + k) (take len text)) (drop (at + k) (take len text)) in
    let parts : size (take (at + k) text) ≡ size (take at text) + size (take k (drop at text)) =
    ap size (take-add at k text) ∙ sized (take at text) (take k (drop at text)) in
    omega (arith, short, whole, parts, ap size front)
