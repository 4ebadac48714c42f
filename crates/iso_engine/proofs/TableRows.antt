-- The rows of the two predicates that have tables.
use Rattle.std.proofs.Common.{◌≡◌, ◌≢◌, ℕ, zero, suc, ◌+◌, ◌-◌, ◌^◌, Bool, true, false, ◌&&◌, if◌then◌else◌, nat_le, nat_lt, Vec, Global, List, [], ◌∷◌, ◌++◌, length, drop, Option, Some, None, Result, Ok, Err, IfOk, bytes_eq, codes, refl, sym, ap, subst, ◌∙◌, arith}
use Rattle.std.specs.List.{All, Contains}
use Rattle.std.proofs.lemmas.List.Elements.{All-append, All-cons, All-nil}
use Rattle.pl_term.specs.Tree.{Chars, Tree, Trees, atom, more, none}
use Rattle.pl_model.specs.Builtins.{row}
use Rattle.pl_model.specs.BuiltinRows as basic
use Rattle.pl_model.specs.BuiltinRows.{Answer, error, gives, one_answer, table, unifying}
use Rattle.pl_model.specs.AtomBuiltins.{concatenates, five, parts_from, sub_atoms, sub_atoms_at, sub_atoms_from}
use Rattle.pl_model.specs.Balls.{error_ball, no_inferences, representation_error}
use Rattle.pl_model.specs.Checks.{text_of_atom}
use Rattle.pl_model.specs.TermGrammar.{is_too_long}
use Rattle.pl_model.specs.Terms.{is_atom}
use Rattle.pl_model.specs.History.{Proc}
use Rattle.pl_model.specs.TermBuiltins.{three, two, unless}
use Rattle.atom_words.specs.declared.view.Refusal.{Refusal}
use Rattle.atom_api.specs.Names.{Names}
use Rattle.term_store.specs.declared.words.Place.{Place}
use Rattle.term_store.specs.Contents.{Contents}
use Rattle.world_api.specs.Gains.{Gains}
use Rattle.world_api.specs.Texts.{Holds as Keeps}
use Rattle.world_api.proofs.Gaining.{gains_weaker}
use Rattle.builtin_rows.specs.declared.predicates.Pred.{Pred}
use Rattle.builtin_rows.specs.declared.predicates.Pred.TheVariants.{One, Two, Three, SubAtom}
use Rattle.builtin_rows.specs.declared.predicates.OfOne.{OfOne}
use Rattle.builtin_rows.specs.declared.predicates.OfTwo.{OfTwo}
use Rattle.builtin_rows.specs.declared.predicates.OfThree.{OfThree}
use Rattle.builtin_rows.specs.declared.predicates.OfThree.TheVariants as of_three
use Rattle.builtin_rows.specs.Predicates.{name_of, name_of_one, name_of_three, name_of_two}
use Rattle.builtin_rows.specs.declared.row.Row.{Row}
use Rattle.builtin_rows.specs.declared.row.Row.TheVariants.{Answer as RowAnswer, Ball, CellsFull, Fails, Holds, Line, NeedsAtoms, Retry, Worn}
use Rattle.builtin_rows.specs.Given.{Given, answered, full, given, given_texts, lined, thrown}
use Rattle.builtin_rows.specs.Rows.{IsRow, refusals_of}
use Rattle.builtin_rows.specs.Steps.{IsPlain, IsPlainRow}
use Rattle.atom_parts.specs.Lined as parts
use Rattle.atom_parts.specs.Misfits.{concatenation_error, sub_atoms_error}
use Rattle.atom_parts.proofs.LineLaws.{nothing_dropped}
use Rattle.builtin_rows.specs.Dispatching.{Does, Dispatches, HasLines, IsGivenText, given_by}
use Rattle.builtin_rows.proofs.Answering.{IsDefined, row_refused}
use Rattle.iso_engine.specs.Dispatching.{given_from, lines_in, lines_of}
use Rattle.iso_engine.proofs.Tableless.{no_lines_of_one, no_lines_of_three, no_lines_of_two}

-- The lines make no terms.
plain_splits : (k i : ℕ) (c : Chars) → All IsPlain (parts_from k i c)
plain_splits zero i c = All-nil IsPlain
plain_splits (suc k) i c = All-cons IsPlain _ (parts_from k (suc i) c) (record { fresh = refl; made = refl }) (plain_splits k (suc i) c)

plain_block : (k n : ℕ) (a : Chars) (b : ℕ) → All IsPlain (sub_atoms_at k n a b)
plain_block zero n a b = All-nil IsPlain
plain_block (suc k) n a b = All-cons IsPlain _ (sub_atoms_at k (suc n) a b) (record { fresh = refl; made = refl }) (plain_block k (suc n) a b)

plain_parts : (k b : ℕ) (a : Chars) → All IsPlain (sub_atoms_from k b a)
plain_parts zero b a = All-nil IsPlain
plain_parts (suc k) b a =
    All-append IsPlain (sub_atoms_at (suc (length a - b)) zero a b) (sub_atoms_from k (suc b) a) (plain_block (suc (length a - b)) zero a b) (plain_parts k (suc b) a)

plain_unless : (e : Option Tree) (r : basic.Row) → IsPlainRow r → IsPlainRow (unless e r)
plain_unless None r h = h
plain_unless (Some e) r h = tt

plain_concatenates : (e : Option Tree) (atoms long : Bool) (x : Tree) (us : Trees) (k : ℕ) (c : Chars)
    → IsPlainRow (unless e (if atoms then (if long then error x else one_answer us) else table (parts_from k zero c)))
plain_concatenates (Some e) atoms long x us k c = tt
plain_concatenates None true true x us k c = tt
plain_concatenates None true false x us k c = tt
plain_concatenates None false long x us k c = plain_splits k zero c

pub concatenates_defined : (t u v : Tree) (next : ℕ) → IsDefined (Three of_three.AtomConcat) (three t u v) next (concatenates t u v)
unfolding row basic.row
concatenates_defined t u v next =
    let joined = text_of_atom t ++ text_of_atom u in
    record {
      row_is = refl;
      plain =
          plain_concatenates (concatenation_error t u v) (is_atom t && is_atom u) (is_too_long joined) (representation_error (codes "max_atom_length"))
          (three t u (atom joined)) (suc (length (text_of_atom v))) (text_of_atom v);
    }

pub sub_atoms_defined : (s t u v w : Tree) (next : ℕ) → IsDefined SubAtom (five s t u v w) next (sub_atoms s t u v w)
unfolding row basic.row
sub_atoms_defined s t u v w next = record { row_is = refl; plain = plain_unless (sub_atoms_error s t u v w) (table (sub_atoms_from (suc (length (text_of_atom s))) zero (text_of_atom s))) (plain_parts (suc (length (text_of_atom s))) zero (text_of_atom s)) }

-- A line stands for one of a table.
abbrev IsOfTable : basic.Row → Given → Type 0
IsOfTable r (lined us xs k) = r ≡ table xs
IsOfTable r g = Unit {0}

with_room_single : (r : basic.Row) (p : Proc) (next used budget : ℕ) (a : Answer) (b c : Bool)
    → IsOfTable r (if b then (if c then answered (a.terms ∷ []) a.fresh a.made else full a.made) else thrown (error_ball no_inferences p))
with_room_single r p next used budget a true true = tt
with_room_single r p next used budget a true false = tt
with_room_single r p next used budget a false c = tt

of_table : (p : Proc) (ts : Trees) (next used budget : ℕ) (r : basic.Row) → IsOfTable r (given p ts next used budget r)
unfolding given
of_table p ts next used budget (gives []) = tt
of_table p ts next used budget (gives (a ∷ [])) =
    with_room_single (gives (a ∷ [])) p next used budget a (nat_lt (next + a.fresh) (2 ^ 64)) (nat_le (used + a.made) budget)
of_table p ts next used budget (gives (a ∷ (b ∷ bs))) = tt
of_table p ts next used budget (table xs) = refl
of_table p ts next used budget (error e) = tt

line_of_table : (s : Contents) (next : ℕ) (ts : Trees) (g : Given) (n : Names) (t : Contents) (ps : Vec Place Global) (following : Option ℕ) (r : basic.Row)
    → IsOfTable r g → IsRow s next ts g n t (Line ps following) → (xs : List Answer) × (r ≡ table xs)
line_of_table s next ts (answered xs f k) n t ps following r is h = absurd h
line_of_table s next ts (lined us xs k) n t ps following r is h = (xs, is)
line_of_table s next ts (thrown b) n t ps following r is h = absurd h
line_of_table s next ts (full need) n t ps following r is h = absurd h

pub has_lines : (s : Contents) (next : ℕ) (q : Pred) (ts : Trees) (n : Names) (t : Contents) (d : basic.Row) (r : Row) → ((k : ℕ) → row (name_of q) ts k ≡ Some d)
    → IsRow s next ts (given_by s next q ts d) n t r → HasLines q ts r
has_lines s next q ts n t d Fails is h = tt
has_lines s next q ts n t d Holds is h = tt
has_lines s next q ts n t d (RowAnswer ps fresh) is h = tt
has_lines s next q ts n t d (Line ps following) is h =
    let found = line_of_table s next ts (given_by s next q ts d) n t ps following d (of_table _ ts next s.used s.budget d) h in
    (found.0, λ k. is k ∙ ap Some found.1)
has_lines s next q ts n t d (Ball w) is h = tt
has_lines s next q ts n t d (CellsFull used need) is h = tt
has_lines s next q ts n t d (NeedsAtoms pass) is h = tt
has_lines s next q ts n t d (Retry cause) is h = tt
has_lines s next q ts n t d (Worn word) is h = tt

-- By the row of a predicate that may have a table.
table_does : {E : Type 0} (s t : Contents) (q : Pred) (ts : Trees) (next : ℕ) (n : Names) (d : basic.Row) (result : Result Row E) → ((k : ℕ) → IsDefined q ts k d)
    → IfOk result (λ r. IsRow s next ts (given_by s next q ts d) n t r) → Does s next q ts n t result
table_does s t q ts next n d (Ok r) is h =
    record {
      row = record { means = d; row_is = (is next).row_is; plain = (is next).plain; stands = h };
      lines = has_lines s next q ts n t d r (λ k. (is k).row_is) h;
    }
table_does s t q ts next n d (Err e) is h = record { row = tt; lines = tt }

-- The predicate is `q`, for which the definition has the row `d`, whatever the next number of a variable is.
pub tabled : {E : Type 0} (s t : Contents) (p q : Pred) (ts : Trees) (next : ℕ) (m n : Names) (old new : List Refusal) (before after : Option (List Chars))
    (d : basic.Row) (result : Result Row E) → p ≡ q → ((k : ℕ) → IsDefined q ts k d)
    → Keeps m n → new ≡ old ++ refusals_of result → Gains (λ c. Contains (given_texts (given_by s next q ts d)) c) before after
    → IfOk result (λ r. IsRow s next ts (given_by s next q ts d) n t r)
    → Dispatches s next p ts m n old new before after t result
tabled s t p q ts next m n old new before after d result same is keeps refused gains h =
    subst (λ x. Dispatches s next x ts m n old new before after t result) (sym same)
    (record {
      does = table_does s t q ts next n d result is h;
      holds = keeps;
      refusals = row_refused old new result refused;
      gains = gains_weaker (λ c. Contains (given_texts (given_by s next q ts d)) c) (IsGivenText s next q ts) before after (λ c k. (d, (is next).row_is, k)) gains;
    })

-- The lines of a table, from one on.
lines_same : (r : basic.Row) → parts.lines_in r ≡ lines_in (Some r)
lines_same (gives xs) = refl
lines_same (table xs) = refl
lines_same (error e) = refl

pub splits_of_table : (t u v : Tree) → parts.lines_in (concatenates t u v) ≡ lines_of (Three of_three.AtomConcat) (three t u v)
splits_of_table t u v = lines_same (concatenates t u v) ∙ ap lines_in (sym (concatenates_defined t u v 0).row_is)

pub parts_of_table : (s t u v w : Tree) → parts.lines_in (sub_atoms s t u v w) ≡ lines_of SubAtom (five s t u v w)
parts_of_table s t u v w = lines_same (sub_atoms s t u v w) ∙ ap lines_in (sym (sub_atoms_defined s t u v w 0).row_is)

module _ (p q : Pred) (ts us : Trees) (xs : List Answer) (line : ℕ) (same : p ≡ q) (is : ts ≡ us) (lines : xs ≡ lines_of q us) where
  as_given : (P : Trees → Given → Type 0) → P us (lined us xs line) → P ts (given_from p ts line)
  as_given P h =
      subst (λ x. P ts (given_from x ts line)) (sym same)
      (subst (λ vs. P vs (given_from q vs line)) (sym is) (subst (λ ys. P us (lined us ys line)) lines h))

  pub lines_stand : {E : Type 0} (s : Contents) (n : Names) (result : Result Row E) → IfOk result (parts.IsFromLine s us xs line n)
      → IfOk result (λ r. (next : ℕ) → IsRow s next ts (given_from p ts line) n s r)
  lines_stand s n result h = as_given (λ vs g. IfOk result (λ r. (next : ℕ) → IsRow s next vs g n s r)) h

  pub lines_asked : (old new : Option (List Chars)) → parts.AsksFromLine us xs line old new → Gains (Contains (given_texts (given_from p ts line))) old new
  lines_asked old new h = as_given (λ vs g. Gains (Contains (given_texts g)) old new) h

-- What is said of a predicate and its arguments, said of the same ones.
pub as_same : (P : Pred → Trees → Type 0) (p q : Pred) (ts us : Trees) → p ≡ q → ts ≡ us → P q us → P p ts
as_same P p q ts us same is h = subst (λ x. P x ts) (sym same) (subst (P q) (sym is) h)

-- A predicate that has no table.
pub no_line : (s : Contents) (n : Names) (p : Pred) (ts : Trees) (line : ℕ) → lines_of p ts ≡ []
    → (next : ℕ) → IsRow s next ts (given_from p ts line) n s Fails
no_line s n p ts line empty next =
    (ap (λ (xs : List Answer). unifying ts (drop line xs)) empty ∙ ap (unifying ts) (nothing_dropped line), refl)

pub one_has_none : (p : Pred) (q : OfOne) (ts : Trees) → p ≡ One q → (t : Tree) × (ts ≡ more t none) → lines_of p ts ≡ []
one_has_none p q ts same found =
    as_same (λ r us. lines_of r us ≡ []) p (One q) ts (more found.0 none) same found.1 (no_lines_of_one (name_of_one q) found.0 0)

pub two_has_none : (p : Pred) (q : OfTwo) (ts : Trees) → p ≡ Two q → (t u : Tree) × (ts ≡ two t u) → lines_of p ts ≡ []
two_has_none p q ts same found =
    as_same (λ r us. lines_of r us ≡ []) p (Two q) ts (two found.0 found.1) same found.2 (no_lines_of_two (name_of_two q) found.0 found.1 0)

other_name : (p : OfThree) → p ≢ of_three.AtomConcat → bytes_eq (name_of_three p) (codes "atom_concat") ≡ false
other_name p other = grind arith

pub three_has_none : (p : OfThree) (t u v : Tree) → p ≢ of_three.AtomConcat → lines_of (Three p) (three t u v) ≡ []
three_has_none p t u v other = no_lines_of_three (name_of_three p) t u v 0 (other_name p other)
