-- How a checker stands for what is checked so far.
use Rattle.std.proofs.Common.{◌≡◌, ◌<◌, ◌≤◌, ◌+◌, ℕ, zero, suc, List, [], ◌∷◌, ◌++◌, Bool, true, false, length, refl, sym, ap, ap₂, subst, ◌∙◌, arith, length-append}
use Rattle.std.specs.Prelude.{Result, Ok, Err, OnOk, encode_utf8_all, nat_lt, if◌then◌else◌}
use Rattle.std.specs.List.{list_any}
use Rattle.std.proofs.lemmas.Bool.Decides.{nat_tests}
use Rattle.std.proofs.lemmas.Str.{encodes-append}
use Rattle.pl_term.specs.Tree.{Chars}
use Rattle.run_model.specs.Execution.{Consulted, syntax_fault, too_large, most_bytes, Rest, items_from, initialization}
use Rattle.run_model.specs.Report.{with_consulted, all_consulted}
use Rattle.pl_model.specs.declared.syntax.SyntaxKind.{SyntaxKind}
use Rattle.pl_model.specs.declared.operators.Kind.{Kind}
use Rattle.pl_model.specs.declared.grammar.Quotes.{Quotes}
use Rattle.pl_model.specs.declared.grammar.Quotes.TheVariants.{Codes}
use Rattle.pl_model.specs.OperatorTable.{OperatorTable, opening_table}
use Rattle.pl_model.specs.SharedState.{with_operators}
use Rattle.pl_model.specs.Grammar.{Item}
use Rattle.pl_model.specs.TermGrammar.{item_of}
use Rattle.source_check.specs.declared.checker.Checker.{Checker}
use Rattle.source_check.specs.declared.checker.Place.{Place}
use Rattle.source_check.specs.declared.checker.Place.TheVariants.{Item as ItemAt, End}
use Rattle.pl_report.specs.Adds.{Adds}
use Rattle.source_check.specs.Listings.{Checking, counts_line, file_checked, from_start, item_checked, items_checked, listing_of, operators_of}
use Rattle.source_check.specs.Checkers.{Stands, Comes, refuses, rest_of, with_fault}
use Rattle.source_check.specs.GoalNodes.{after, puts}
use Rattle.source_check.proofs.Refusing.{table_refused, table_taken}

lines_more : (name t : Chars) (cs : List Consulted) (c : Consulted) → all_consulted name t (cs ++ c ∷ []) ≡ with_consulted name (all_consulted name t cs) c
lines_more name t [] c = refl
lines_more name t (d ∷ ds) c = lines_more name (with_consulted name t d) ds c

-- A fault more.
pub fault_stands : (name : Chars) (k l : Checker) (c : Checking) (kind : SyntaxKind) (at : ℕ)
    → Stands name k c
    → l.place ≡ k.place → l.operators ≡ k.operators → l.quotes ≡ k.quotes
    → l.out.items ≡ encode_utf8_all (with_consulted name (all_consulted name [] c.faults) (syntax_fault kind at))
    → l.faults ≡ k.faults + 1 → l.clauses ≡ k.clauses → l.directives ≡ k.directives
    → Stands name l (with_fault c kind at)
fault_stands name k l c kind at s place operators quotes out faults clauses directives =
    record {
      rest = ap rest_of place ∙ s.rest;
      operators = operators ∙ s.operators;
      quotes = quotes ∙ s.quotes;
      lines = out ∙ ap encode_utf8_all (sym (lines_more name [] c.faults (syntax_fault kind at)));
      faults = faults ∙ (ap (λ n. n + 1) s.faults ∙ sym (length-append c.faults (syntax_fault kind at ∷ [])));
      clauses = clauses ∙ s.clauses;
      directives = directives ∙ s.directives;
    }

-- The last line.
pub counts_added : (name : Chars) (k : Checker) (c : Checking) (bytes : List ℕ)
    → Stands name k c
    → Adds k.out.items bytes (counts_line k.clauses k.directives k.faults)
    → bytes ≡ encode_utf8_all (listing_of name c)
counts_added name k c bytes s a =
    a.added
    ∙ ap (λ x. x ++ encode_utf8_all (counts_line k.clauses k.directives k.faults)) s.lines
    ∙ sym (encodes-append (all_consulted name [] c.faults) (counts_line k.clauses k.directives k.faults))
    ∙ ap (λ n. encode_utf8_all (all_consulted name [] c.faults ++ counts_line n k.directives k.faults)) s.clauses
    ∙ ap (λ n. encode_utf8_all (all_consulted name [] c.faults ++ counts_line c.clauses n k.faults)) s.directives
    ∙ ap (λ n. encode_utf8_all (all_consulted name [] c.faults ++ counts_line c.clauses c.directives n)) s.faults

-- What holds of an answer that is Ok.
pub on_ok : {A E P Q : Type 0} → (r : Result A E) → (P → Q) → OnOk r P → OnOk r Q
on_ok (Ok x) f p = f p
on_ok (Err e) f p = tt

above : (m n : ℕ) → m < n → nat_lt m n ≡ true
above m n h = grind (arith, nat_tests)

not_above : (m n : ℕ) → n ≤ m → nat_lt m n ≡ false
not_above m n h = grind (arith, nat_tests)

-- Before the first item.
start_by : (name : Chars) (k : Checker) (bytes : List ℕ) (b : Bool)
    → nat_lt most_bytes (length bytes) ≡ b
    → rest_of k.place ≡ (if b then initialization else items_from zero)
    → k.operators ≡ opening_table → k.quotes ≡ Codes
    → k.out.items ≡ encode_utf8_all (all_consulted name [] (if b then too_large ∷ [] else []))
    → k.faults ≡ length {A = Consulted} (if b then too_large ∷ [] else [])
    → k.clauses ≡ zero → k.directives ≡ zero
    → Stands name k (from_start bytes)
start_by name k bytes b is rest operators quotes lines faults clauses directives =
    record {
      rest = rest ∙ ap (λ (b : Bool). if b then initialization else items_from zero) (sym is);
      operators = operators;
      quotes = quotes;
      lines = lines ∙ ap (λ (b : Bool). encode_utf8_all (all_consulted name [] (if b then too_large ∷ [] else []))) (sym is);
      faults = faults ∙ ap (λ (b : Bool). length {A = Consulted} (if b then too_large ∷ [] else [])) (sym is);
      clauses = clauses;
      directives = directives;
    }

pub large_stands : (name : Chars) (k : Checker) (bytes : List ℕ)
    → most_bytes < length bytes
    → k.place ≡ End → k.operators ≡ opening_table → k.quotes ≡ Codes
    → k.out.items ≡ encode_utf8_all (with_consulted name [] too_large)
    → k.faults ≡ 1 → k.clauses ≡ zero → k.directives ≡ zero
    → Stands name k (from_start bytes)
large_stands name k bytes large place operators quotes lines faults clauses directives =
    start_by name k bytes true (above most_bytes (length bytes) large) (ap rest_of place) operators quotes lines faults clauses directives

pub small_stands : (name : Chars) (k : Checker) (bytes : List ℕ)
    → length bytes ≤ most_bytes
    → k.place ≡ ItemAt zero → k.operators ≡ opening_table → k.quotes ≡ Codes
    → k.out.items ≡ []
    → k.faults ≡ zero → k.clauses ≡ zero → k.directives ≡ zero
    → Stands name k (from_start bytes)
small_stands name k bytes small place operators quotes lines faults clauses directives =
    start_by name k bytes false (not_above most_bytes (length bytes) small) (ap rest_of place) operators quotes lines faults clauses directives

-- A change of the table.
pub refused_stands : (name : Chars) (k : Checker) (c : Checking) (p : ℕ) (j : Kind) (fs : List Chars)
    → Stands name k c
    → list_any (refuses k.operators p j) fs ≡ true
    → Stands name k (after (puts p j fs) c)
refused_stands name k c p j fs s e =
    record {
      rest = s.rest;
      operators = s.operators ∙ sym (table_refused c.operators p j fs (ap (λ (t : OperatorTable). list_any (refuses t p j) fs) (sym s.operators) ∙ e));
      quotes = s.quotes;
      lines = s.lines;
      faults = s.faults;
      clauses = s.clauses;
      directives = s.directives;
    }

pub put_stands : (name : Chars) (k l : Checker) (c : Checking) (p : ℕ) (j : Kind) (fs : List Chars)
    → Stands name k c
    → list_any (refuses k.operators p j) fs ≡ false
    → l.operators ≡ with_operators (operators_of p j fs) k.operators
    → l.place ≡ k.place → l.quotes ≡ k.quotes → l.out.items ≡ k.out.items → l.faults ≡ k.faults → l.clauses ≡ k.clauses → l.directives ≡ k.directives
    → Stands name l (after (puts p j fs) c)
put_stands name k l c p j fs s e put place quotes out faults clauses directives =
    record {
      rest = ap rest_of place ∙ s.rest;
      operators =
          put
          ∙ ap (with_operators (operators_of p j fs)) s.operators
          ∙ sym (table_taken c.operators p j fs (ap (λ (t : OperatorTable). list_any (refuses t p j) fs) (sym s.operators) ∙ e));
      quotes = quotes ∙ s.quotes;
      lines = out ∙ s.lines;
      faults = faults ∙ s.faults;
      clauses = clauses ∙ s.clauses;
      directives = directives ∙ s.directives;
    }

-- Reading goes on at another place.
pub moved : (name : Chars) (k : Checker) (c : Checking) (p : Place) (r : Rest) → rest_of p ≡ r → Stands name k c → Stands name (record k { place = p }) (record c { rest = r })
moved name k c p r e s =
    record {
      rest = e;
      operators = s.operators;
      quotes = s.quotes;
      lines = s.lines;
      faults = s.faults;
      clauses = s.clauses;
      directives = s.directives;
    }

-- The item that is read.
pub item_read : (name : Chars) (k : Checker) (c : Checking) (bytes : List ℕ) (at : ℕ) (i : Item)
    → Stands name k c
    → item_of bytes at k.operators k.quotes ≡ i
    → item_of bytes at c.operators c.quotes ≡ i
item_read name k c bytes at i s e = ap₂ (λ (t : OperatorTable) (q : Quotes). item_of bytes at t q) (sym s.operators) (sym s.quotes) ∙ e

-- Items one after the other.
done_by : (bytes : List ℕ) (n : ℕ) (c : Checking) (r : Rest) → c.rest ≡ r → r ≡ initialization → items_checked bytes n c ≡ c
done_by bytes zero c r e f = refl
done_by bytes (suc n) c r e f =
    ap (λ (q : Rest). items_checked bytes n (item_checked bytes c q)) (e ∙ f) ∙ done_by bytes n c r e f

-- After the last item.
pub comes_done : (name : Chars) (bytes : List ℕ) (n : ℕ) (k : Checker) → Comes name bytes n k → k.place ≡ End → Stands name k (file_checked bytes)
comes_done name bytes n k h e =
    subst (Stands name k) (sym (done_by bytes n h.checking initialization (sym h.stands.rest ∙ ap rest_of e) refl) ∙ h.comes) h.stands

pub comes_last : (name : Chars) (bytes : List ℕ) (k : Checker) → Comes name bytes zero k → Stands name k (file_checked bytes)
comes_last name bytes k h = subst (Stands name k) h.comes h.stands

-- One item more.
pub comes_more : (name : Chars) (bytes : List ℕ) (n at : ℕ) (k l : Checker)
    → (h : Comes name bytes (suc n) k)
    → k.place ≡ ItemAt at
    → ((c : Checking) → Stands name k c → Stands name l (item_checked bytes c (items_from at)))
    → Comes name bytes n l
comes_more name bytes n at k l h e taken =
    let from : items_from at ≡ h.checking.rest = sym (ap rest_of e) ∙ h.stands.rest in
    record {
      checking = item_checked bytes h.checking (items_from at);
      stands = taken h.checking h.stands;
      comes = ap (λ (r : Rest). items_checked bytes n (item_checked bytes h.checking r)) from ∙ h.comes;
    }

-- An item more.
pub clause_stands : (name : Chars) (k : Checker) (c : Checking) → Stands name k c → Stands name (record k { clauses = k.clauses + 1 }) (record c { clauses = suc c.clauses })
clause_stands name k c s =
    record {
      rest = s.rest;
      operators = s.operators;
      quotes = s.quotes;
      lines = s.lines;
      faults = s.faults;
      clauses = omega (arith, s.clauses);
      directives = s.directives;
    }

pub directive_stands : (name : Chars) (k : Checker) (c : Checking) → Stands name k c → Stands name (record k { directives = k.directives + 1 }) (record c { directives = suc c.directives })
directive_stands name k c s =
    record {
      rest = s.rest;
      operators = s.operators;
      quotes = s.quotes;
      lines = s.lines;
      faults = s.faults;
      clauses = s.clauses;
      directives = omega (arith, s.directives);
    }

-- Before the first item the whole file is left.
pub comes_start : (name : Chars) (bytes : List ℕ) (n : ℕ) (k : Checker) → n ≡ suc (length bytes) → Stands name k (from_start bytes) → Comes name bytes n k
comes_start name bytes n k e s = record { checking = from_start bytes; stands = s; comes = ap (λ m. items_checked bytes m (from_start bytes)) e }

pub comes_left : (name : Chars) (bytes : List ℕ) (m n : ℕ) (k : Checker) → m ≡ n → Comes name bytes m k → Comes name bytes n k
comes_left name bytes m n k e h = subst (λ i. Comes name bytes i k) e h
