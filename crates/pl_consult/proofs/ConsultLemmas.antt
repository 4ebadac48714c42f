-- How an execution goes on with the items of its file.
use Rattle.std.proofs.Common.{◌≡◌, ◌<◌, length, ℕ, zero, List, [], ◌∷◌, ◌++◌, Bool, true, false, Option, Some, None, refl, sym, ap, ◌∙◌, subst}
use Rattle.std.specs.Prelude.{Result, Ok, Err, OnOk, encode_utf8_all, if◌then◌else◌}
use Rattle.pl_term.specs.Tree.{Chars, Tree}
use Rattle.pl_term.specs.Variables.{rename}
use Rattle.pl_model.specs.declared.grammar.Quotes.{Quotes}
use Rattle.pl_model.specs.OperatorTable.{OperatorTable}
use Rattle.pl_model.specs.Grammar.{Item, fault, end_of_text}
use Rattle.pl_model.specs.declared.syntax.SyntaxKind.{SyntaxKind}
use Rattle.pl_model.specs.History.{Clause}
use Rattle.pl_model.specs.Control.{start as start_search}
use Rattle.pl_model.specs.TermGrammar.{item_of}
use Rattle.pl_model.specs.Requests.{standing, refused}
use Rattle.run_model.specs.Execution.{Job, consults, bytes_in, at_start, first_execution, at_activity, taking, adding, directing, initializing, Rest, items_from, initialization, directive_limits, Consulted, too_large, syntax_fault, ball_of_item, directive_failed, directive_halted, over, most_bytes, reported, Execution, gone_on, with_line, item_taken, with_item, with_clause, with_goal, clause_added, behind_fault}
use Rattle.pl_model.specs.Resolution.{Ending, solved, no_more, threw, exited, halted}
use Rattle.run_model.specs.Report.{with_consulted, all_consulted}
use Rattle.std.proofs.lemmas.Bool.{lt-ltb}
use Rattle.pl_model.specs.declared.ends.How.{How}
use Rattle.pl_model.specs.declared.ends.How.TheVariants.{False, Threw, Halted}
use Rattle.run_model.specs.Lawful.{EndsSo}
use Rattle.pl_consult.specs.declared.consult.Consult.{Consult}
use Rattle.pl_consult.specs.Consults.{is_too_large, first_place, first_lines, rest_of, activity_of, Stands, Does, Took}
use Rattle.pl_consult.specs.declared.consult.Place.{Place}
use Rattle.pl_consult.specs.declared.consult.Place.TheVariants.{Item as ItemAt, Initialization}
use Rattle.pl_consult.specs.declared.consult.Taken.TheVariants.{Clause as ClauseTaken, Directive, Passed}
use Rattle.pl_consult.specs.Checks.{kept_clause}

-- What holds of an answer that is Ok.
pub on_ok : {A E P Q : Type 0} → (r : Result A E) → (P → Q) → OnOk r P → OnOk r Q
on_ok (Ok x) f p = f p
on_ok (Err e) f p = tt

lines_more : (name t : Chars) (cs : List Consulted) (c : Consulted) → all_consulted name t (cs ++ c ∷ []) ≡ with_consulted name (all_consulted name t cs) c
lines_more name t [] c = refl
lines_more name t (d ∷ ds) c = lines_more name (with_consulted name t d) ds c

-- One line more.
pub stands_line : (c : Consult) (job : Job) (x y : Execution) (old new : List ℕ) (line : Consulted)
    → Stands c job x old
    → y.later ≡ x.later
    → y.consulted ≡ x.consulted ++ line ∷ []
    → new ≡ encode_utf8_all (with_consulted c.name (all_consulted c.name [] x.consulted) line)
    → Stands c job y new
stands_line c job x y old new line s later consulted put =
    record {
      bytes = s.bytes;
      later = later ∙ s.later;
      lines =
          put
          ∙ ap encode_utf8_all (sym (lines_more c.name [] x.consulted line))
          ∙ ap (λ cs. encode_utf8_all (all_consulted c.name [] cs)) (sym consulted);
    }

-- Consulting goes on at another place.
pub moved : {c : Consult} {job : Job} {x : Execution} {out : List ℕ} (p : Place) → Stands c job x out → Stands (record c { place = p }) job x out
moved p s = record { bytes = s.bytes; later = s.later; lines = s.lines }

pub gone_stands : (c : Consult) (job : Job) (x : Execution) (r : Rest) (out : List ℕ) → Stands c job x out → Stands c job (gone_on x r) out
gone_stands c job x (items_from at) out s = record { bytes = s.bytes; later = s.later; lines = s.lines }
gone_stands c job x initialization out s = record { bytes = s.bytes; later = s.later; lines = s.lines }

pub gone_does : (x : Execution) (p : Place) → (gone_on x (rest_of p)).activity ≡ activity_of p
gone_does x (ItemAt at) = refl
gone_does x Initialization = refl

-- The item that is read.
pub item_read : (c : Consult) (job : Job) (x : Execution) (out : List ℕ) (at : ℕ) (ops : OperatorTable) (quotes : Quotes) (item : Item)
    → Stands c job x out
    → item_of c.text.items at ops quotes ≡ item
    → item_taken job x at (standing ops quotes) ≡ with_item job x ops at item
item_read c job x out at ops quotes item s e =
    ap (with_item job x ops at) (ap (λ bs. item_of bs at ops quotes) s.bytes ∙ e)

pub end_taken : (c : Consult) (job : Job) (x : Execution) (out : List ℕ) (at : ℕ) (ops : OperatorTable) (quotes : Quotes)
    → Stands c job x out
    → item_of c.text.items at ops quotes ≡ end_of_text
    → Took Passed c.name (record c { place = Initialization }) job ops (item_taken job x at (standing ops quotes)) out
end_taken c job x out at ops quotes s e =
    subst
    (λ y. Took Passed c.name (record c { place = Initialization }) job ops y out)
    (sym (item_read c job x out at ops quotes end_of_text s e))
    (moved Initialization (gone_stands c job x initialization out s), refl, refl)

pub fault_taken : (c : Consult) (p : Place) (job : Job) (x : Execution) (old new : List ℕ) (at : ℕ) (ops : OperatorTable) (quotes : Quotes) (kind : SyntaxKind) (place : ℕ)
    → Stands c job x old
    → item_of c.text.items at ops quotes ≡ fault kind place
    → new ≡ encode_utf8_all (with_consulted c.name (all_consulted c.name [] x.consulted) (syntax_fault kind place))
    → rest_of p ≡ behind_fault c.text.items at kind
    → Took Passed c.name (record c { place = p }) job ops (item_taken job x at (standing ops quotes)) new
fault_taken c p job x old new at ops quotes kind place s e put rest =
    let z : Execution = with_line x (syntax_fault kind place) in
    subst
    (λ y. Took Passed c.name (record c { place = p }) job ops y new)
    (sym
    (item_read c job x old at ops quotes (fault kind place) s e
    ∙ ap (gone_on z) (ap (λ bs. behind_fault bs at kind) s.bytes ∙ sym rest))) (
      moved p (gone_stands c job z (rest_of p) new (stands_line c job x z old new (syntax_fault kind place) s refl refl put)),
      gone_does z p,
      refl,
    )

-- A clause-term.
pub clause_taken : (c : Consult) (job : Job) (x : Execution) (out : List ℕ) (start next : ℕ) (ops : OperatorTable) (t : Tree) (r : Result Clause Tree)
    → Stands c job x out
    → c.place ≡ ItemAt next
    → Ok (kept_clause t) ≡ r
    → rename zero t ≡ t
    → Took (ClauseTaken t start) c.name c job ops (with_clause x ops start next r) out
clause_taken c job x out start next ops t r s at e numbered =
    subst
    (λ q. Took (ClauseTaken t start) c.name c job ops (with_clause x ops start next q) out)
    e
    (record { bytes = s.bytes; later = s.later; lines = s.lines }, by c.place at, refl)
  where
    by : (p : Place) → p ≡ ItemAt next → Does (ClauseTaken t start) p job ops (adding ops start next (kept_clause t))
    by (ItemAt k) e = let same : next ≡ k = cc in (ap (λ n. adding ops start n (kept_clause t)) same, numbered)
    by Initialization e = absurd (let no : ⊥ = cc in no)

pub clause_refused : (c : Consult) (job : Job) (x : Execution) (new : List ℕ) (start next : ℕ) (ops : OperatorTable) (error : Tree) (r : Result Clause Tree)
    → c.place ≡ ItemAt next
    → Err error ≡ r
    → Stands c job (clause_added x ops start next (refused error)) new
    → Took Passed c.name c job ops (with_clause x ops start next r) new
clause_refused c job x new start next ops error r at e s =
    subst (λ q. Took Passed c.name c job ops (with_clause x ops start next q) new) e (s, sym (ap activity_of at), refl)

-- A directive that is put off, and one that is to be run.
pub later_taken : (c d : Consult) (job : Job) (x : Execution) (out : List ℕ) (start next : ℕ) (ops : OperatorTable) (t g : Tree) (o : Option Tree)
    → Stands c job x out
    → c.place ≡ ItemAt next
    → Some g ≡ o
    → d.text.items ≡ c.text.items
    → d.name ≡ c.name
    → d.place ≡ c.place
    → d.later.items ≡ c.later.items ++ (start, g) ∷ []
    → Took Passed c.name d job ops (with_goal job x start next t o) out
later_taken c d job x out start next ops t g o s at e text name place later =
    subst
    (λ q. Took Passed c.name d job ops (with_goal job x start next t q) out)
    e (
      record {
        bytes = s.bytes ∙ sym text;
        later = ap (λ ls. ls ++ (start, g) ∷ []) s.later ∙ sym later;
        lines = s.lines ∙ ap (λ n. encode_utf8_all (all_consulted n [] x.consulted)) (sym name);
      },
      sym (ap activity_of (place ∙ at)),
      name,
    )

pub directive_taken : (c : Consult) (job : Job) (x : Execution) (out : List ℕ) (start next : ℕ) (ops : OperatorTable) (t : Tree) (o : Option Tree)
    → Stands c job x out
    → c.place ≡ ItemAt next
    → None ≡ o
    → Took (Directive t start) c.name c job ops (with_goal job x start next t o) out
directive_taken c job x out start next ops t o s at e =
    subst
    (λ q. Took (Directive t start) c.name c job ops (with_goal job x start next t q) out)
    e (
      record { bytes = s.bytes; later = s.later; lines = s.lines },
      ap (λ r. directing start r (start_search (directive_limits job) t)) (sym (ap rest_of at)),
      refl,
    )

-- The execution before its first item.
first_by : (b : Bool) (c : Consult) (out : List ℕ) → c.later.items ≡ [] → c.place ≡ first_place b → out ≡ encode_utf8_all (all_consulted c.name [] (first_lines b))
    → let x : Execution = (if b then record (at_activity initializing) { consulted = too_large ∷ [] } else at_activity (taking zero)) in
    (x.later ≡ c.later.items) × (out ≡ encode_utf8_all (all_consulted c.name [] x.consulted)) × (x.activity ≡ activity_of c.place)
first_by true c out later place lines = (sym later, lines, sym (ap activity_of place))
first_by false c out later place lines = (sym later, lines, sym (ap activity_of place))

pub first_stands : (c : Consult) (job : Job) (bytes : List ℕ) (words : List Chars) (out : List ℕ)
    → job.script ≡ consults bytes words
    → c.text.items ≡ bytes
    → c.later.items ≡ []
    → c.place ≡ first_place (is_too_large bytes)
    → out ≡ encode_utf8_all (all_consulted c.name [] (first_lines (is_too_large bytes)))
    → Stands c job (at_start job) out × ((at_start job).activity ≡ activity_of c.place)
first_stands c job bytes words out script text later place lines =
    let e : at_start job ≡ first_execution (consults bytes words) = ap first_execution script in
    let f = first_by (is_too_large bytes) c out later place lines in (
      record {
        bytes = ap bytes_in script ∙ sym text;
        later = ap (λ (y : Execution). y.later) e ∙ f.0;
        lines = f.1 ∙ ap (λ (y : Execution). encode_utf8_all (all_consulted c.name [] y.consulted)) (sym e);
      },
      ap (λ (y : Execution). y.activity) e ∙ f.2,
    )

-- How a directive ended.
failed_only : (e : Ending) → EndsSo e False → e ≡ no_more
failed_only solved h = absurd h
failed_only no_more h = refl
failed_only (threw b) h = absurd h
failed_only (exited u) h = absurd h
failed_only (halted n) h = absurd h

threw_only : (t : Tree) (e : Ending) → EndsSo e (Threw t) → e ≡ threw t
threw_only t solved h = absurd h
threw_only t no_more h = absurd h
threw_only t (threw b) h = ap threw h
threw_only t (exited u) h = absurd h
threw_only t (halted n) h = absurd h

halted_only : (n : ℕ) (e : Ending) → EndsSo e (Halted n) → e ≡ halted n
halted_only n solved h = absurd h
halted_only n no_more h = absurd h
halted_only n (threw b) h = absurd h
halted_only n (exited u) h = absurd h
halted_only n (halted k) h = ap halted h

-- The line for a directive that failed, and for one that ended with a ball.
pub failed_stands : (c : Consult) (job : Job) (x : Execution) (p : Place) (place : ℕ) (how : How Tree) (e : Ending) (ops : OperatorTable) (old new : List ℕ)
    → how ≡ False
    → EndsSo e how
    → Stands c job x old
    → new ≡ encode_utf8_all (with_consulted c.name (all_consulted c.name [] x.consulted) (directive_failed place))
    → Stands c job (reported x place (rest_of p) e ops) new
failed_stands c job x p place how e ops old new is ends s put =
    let z : Execution = with_line x (directive_failed place) in
    subst
    (λ (f : Ending). Stands c job (reported x place (rest_of p) f ops) new)
    (sym (failed_only e (subst (λ (h : How Tree). EndsSo e h) is ends)))
    (gone_stands c job z (rest_of p) new (stands_line c job x z old new (directive_failed place) s refl refl put))

pub threw_stands : (c : Consult) (job : Job) (x : Execution) (p : Place) (place : ℕ) (how : How Tree) (ball : Tree) (e : Ending) (ops : OperatorTable) (old new : List ℕ)
    → how ≡ Threw ball
    → EndsSo e how
    → Stands c job x old
    → new ≡ encode_utf8_all (with_consulted c.name (all_consulted c.name [] x.consulted) (ball_of_item ops place ball))
    → Stands c job (reported x place (rest_of p) e ops) new
threw_stands c job x p place how ball e ops old new is ends s put =
    let z : Execution = with_line x (ball_of_item ops place ball) in
    subst
    (λ (f : Ending). Stands c job (reported x place (rest_of p) f ops) new)
    (sym (threw_only ball e (subst (λ (h : How Tree). EndsSo e h) is ends)))
    (gone_stands c job z (rest_of p) new (stands_line c job x z old new (ball_of_item ops place ball) s refl refl put))

pub halted_stands : (c : Consult) (job : Job) (x : Execution) (rest : Rest) (place : ℕ) (how : How Tree) (n : ℕ) (e : Ending) (ops : OperatorTable) (old new : List ℕ)
    → how ≡ Halted n
    → EndsSo e how
    → Stands c job x old
    → new ≡ encode_utf8_all (with_consulted c.name (all_consulted c.name [] x.consulted) (directive_halted place n))
    → Stands c job (reported x place rest e ops) new
halted_stands c job x rest place how n e ops old new is ends s put =
    let z : Execution = record (with_line x (directive_halted place n)) { activity = over (halted n) } in
    subst
    (λ (f : Ending). Stands c job (reported x place rest f ops) new)
    (sym (halted_only n e (subst (λ (h : How Tree). EndsSo e h) is ends)))
    (stands_line c job x z old new (directive_halted place n) s refl refl put)

-- What is written of a file that is too large.
pub too_large_lines : (name bytes old new : List ℕ)
    → old ≡ []
    → most_bytes < length bytes
    → ((t : Chars) → old ≡ encode_utf8_all t → new ≡ encode_utf8_all (with_consulted name t too_large))
    → new ≡ encode_utf8_all (all_consulted name [] (first_lines (is_too_large bytes)))
too_large_lines name bytes old new none more put =
    put [] none ∙ ap (λ (b : Bool). encode_utf8_all (all_consulted name [] (first_lines b))) (sym (lt-ltb most_bytes (length bytes) more))
