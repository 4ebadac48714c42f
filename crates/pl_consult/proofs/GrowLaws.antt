-- How the text of the file grows by the lines of faults.
use Rattle.std.proofs.Common.{◌≡◌, ◌<◌, ◌≤◌, ◌+◌, ℕ, List, [], ◌∷◌, ◌++◌, length, Bool, true, false, ◌||◌, nat_lt, refl, sym, ap, ap₂, ◌∙◌, arith, append-nil, append_assoc}
use Rattle.std.specs.Prelude.{encode_utf8_all, if◌then◌else◌}
use Rattle.std.proofs.lemmas.Bool.{lt-ltb, le-ltb}
use Rattle.std.proofs.lemmas.List.{length-append}
use Rattle.std.proofs.lemmas.Str.{encodes-append}
use Rattle.pl_report.proofs.AddsLemmas.{ascii_bytes}
use Rattle.pl_term.specs.Tree.{Chars}
use Rattle.run_model.specs.Execution.{Script, consults, runs, first_execution, most_bytes, Execution, Consulted, wrote, too_large, syntax_fault, ball_of_item, directive_failed, directive_halted}
use Rattle.run_model.specs.Report.{newline, is_open, closed, with_line, with_consulted, all_consulted}
use Rattle.script_api.specs.Scripts.{is_fault, some_fault}
use Rattle.pl_consult.specs.Steps.{AreFaults, Grows}

pub grows_none : (cs : List Consulted) → Grows cs cs
grows_none cs = record { faults = []; grown = sym (append-nil cs); are = tt }

pub grows_line : (cs : List Consulted) (c : Consulted) → is_fault c ≡ true → Grows cs (cs ++ c ∷ [])
grows_line cs c is = record { faults = c ∷ []; grown = refl; are = (is, tt) }

are_append : (cs ds : List Consulted) → AreFaults cs → AreFaults ds → AreFaults (cs ++ ds)
are_append [] ds a b = b
are_append (c ∷ cs) ds a b = (a.0, are_append cs ds a.1 b)

pub grows_then : (xs bs cs : List Consulted) → Grows xs bs → Grows bs cs → Grows xs cs
grows_then xs bs cs f g =
    record {
      faults = f.faults ++ g.faults;
      grown = g.grown ∙ ap (λ l. l ++ g.faults) f.grown ∙ append_assoc xs f.faults g.faults;
      are = are_append f.faults g.faults f.are g.are;
    }

-- A line makes the text longer.
closed_longer : (b : Bool) (t : Chars) → length (encode_utf8_all t) ≤ length (encode_utf8_all (if b then t ++ newline else t))
closed_longer true t =
    let e : length (encode_utf8_all (t ++ newline)) ≡ length (encode_utf8_all t) + length (encode_utf8_all newline) =
    ap length (encodes-append t newline) ∙ length-append (encode_utf8_all t) (encode_utf8_all newline) in
    omega (arith, e)
closed_longer false t = let r : length (encode_utf8_all t) ≤ length (encode_utf8_all t) = omega arith in r

line_longer : (t line : Chars) → length (encode_utf8_all t) < length (encode_utf8_all (with_line t line))
line_longer t line =
    let one : length (encode_utf8_all newline) ≡ 1 = ap length (ascii_bytes newline refl) in
    let e : length (encode_utf8_all (with_line t line))
    ≡ length (encode_utf8_all (closed t)) + (length (encode_utf8_all line) + length (encode_utf8_all newline)) =
    ap length (encodes-append (closed t) (line ++ newline))
    ∙ length-append (encode_utf8_all (closed t)) (encode_utf8_all (line ++ newline))
    ∙ ap (λ n. length (encode_utf8_all (closed t)) + n)
    (ap length (encodes-append line newline) ∙ length-append (encode_utf8_all line) (encode_utf8_all newline)) in
    let k : length (encode_utf8_all t) ≤ length (encode_utf8_all (closed t)) = closed_longer (is_open t) t in
    omega (arith, e, one, k)

fault_longer : (name t : Chars) (c : Consulted) → is_fault c ≡ true → length (encode_utf8_all t) < length (encode_utf8_all (with_consulted name t c))
fault_longer name t (wrote u) is = absurd (let no : ⊥ = cc in no)
fault_longer name t too_large is = line_longer t _
fault_longer name t (syntax_fault kind at) is = line_longer t _
fault_longer name t (ball_of_item ops at ball) is = line_longer t _
fault_longer name t (directive_failed at) is = line_longer t _
fault_longer name t (directive_halted at n) is = line_longer t _

faults_longer : (name t : Chars) (cs : List Consulted) → AreFaults cs → length (encode_utf8_all t) ≤ length (encode_utf8_all (all_consulted name t cs))
faults_longer name t [] are = let r : length (encode_utf8_all t) ≤ length (encode_utf8_all t) = omega arith in r
faults_longer name t (c ∷ cs) are =
    let a = fault_longer name t c are.0 in
    let b = faults_longer name (with_consulted name t c) cs are.1 in
    omega (arith, a, b)

some_longer : (name t : Chars) (c : Consulted) (cs : List Consulted) → AreFaults (c ∷ cs)
    → length (encode_utf8_all t) < length (encode_utf8_all (all_consulted name t (c ∷ cs)))
some_longer name t c cs are =
    let a = fault_longer name t c are.0 in
    let b = faults_longer name (with_consulted name t c) cs are.1 in
    omega (arith, a, b)

lines_append : (name t : Chars) (cs ds : List Consulted) → all_consulted name t (cs ++ ds) ≡ all_consulted name (all_consulted name t cs) ds
lines_append name t [] ds = refl
lines_append name t (c ∷ cs) ds = lines_append name (with_consulted name t c) cs ds

-- Whether there is a fault.
or_assoc : (a b c : Bool) → (a || (b || c)) ≡ ((a || b) || c)
or_assoc true b c = refl
or_assoc false b c = refl

or_true : (b : Bool) → (b || true) ≡ true
or_true true = refl
or_true false = refl

or_false : (b : Bool) → (b || false) ≡ b
or_false true = refl
or_false false = refl

some_append : (cs ds : List Consulted) → some_fault (cs ++ ds) ≡ (some_fault cs || some_fault ds)
some_append [] ds = refl
some_append (c ∷ cs) ds = ap (λ b. is_fault c || b) (some_append cs ds) ∙ or_assoc (is_fault c) (some_fault cs) (some_fault ds)

not_longer : (n : ℕ) → nat_lt n n ≡ false
not_longer n = let r : n ≤ n = omega arith in le-ltb n n r

-- There is one more where the text has grown.
grown_by : (name : Chars) (cs fs : List Consulted) (out more : List ℕ)
    → AreFaults fs
    → out ≡ encode_utf8_all (all_consulted name [] cs)
    → more ≡ encode_utf8_all (all_consulted name [] (cs ++ fs))
    → some_fault (cs ++ fs) ≡ (some_fault cs || nat_lt (length out) (length more))
grown_by name cs [] out more are is written =
    let same : more ≡ out = written ∙ ap (λ ds. encode_utf8_all (all_consulted name [] ds)) (append-nil cs) ∙ sym is in
    ap some_fault (append-nil cs)
    ∙ sym (or_false (some_fault cs))
    ∙ ap (λ b. some_fault cs || b) (sym (ap (λ l. nat_lt (length out) (length l)) same ∙ not_longer (length out)))
grown_by name cs (f ∷ fs) out more are is written =
    let longer : length (encode_utf8_all (all_consulted name [] cs)) < length (encode_utf8_all (all_consulted name (all_consulted name [] cs) (f ∷ fs))) =
    some_longer name (all_consulted name [] cs) f fs are in
    let text : more ≡ encode_utf8_all (all_consulted name (all_consulted name [] cs) (f ∷ fs)) =
    written ∙ ap encode_utf8_all (lines_append name [] cs (f ∷ fs)) in
    let grew : nat_lt (length out) (length more) ≡ true =
    ap₂ (λ l k. nat_lt (length l) (length k)) is text ∙ lt-ltb _ _ longer in
    some_append cs (f ∷ fs)
    ∙ ap (λ b. some_fault cs || (b || some_fault fs)) are.0
    ∙ or_true (some_fault cs)
    ∙ sym (ap (λ b. some_fault cs || b) grew ∙ or_true (some_fault cs))

pub fault_grown : (name : Chars) (cs ds : List Consulted) (out more : List ℕ)
    → Grows cs ds
    → out ≡ encode_utf8_all (all_consulted name [] cs)
    → more ≡ encode_utf8_all (all_consulted name [] ds)
    → some_fault ds ≡ (some_fault cs || nat_lt (length out) (length more))
fault_grown name cs ds out more g is written =
    ap some_fault g.grown
    ∙ grown_by name cs g.faults out more g.are is (written ∙ ap (λ ls. encode_utf8_all (all_consulted name [] ls)) g.grown)

-- Before the first item.
either_grows : (b : Bool) (x y : Execution) → Grows [] x.consulted → Grows [] y.consulted → Grows [] (if b then x else y).consulted
either_grows true x y g h = g
either_grows false x y g h = h

pub first_grows : (script : Script) → Grows [] (first_execution script).consulted
first_grows (consults bytes words) =
    either_grows (nat_lt most_bytes (length bytes)) _ _ (grows_line [] too_large refl) (grows_none [])
first_grows (runs t) = grows_none []
