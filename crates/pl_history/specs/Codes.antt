-- How entries, fronts and views are told apart where a proof stores them. Nothing of them is stored at run time.
use Rattle.std.specs.Prelude.{◌≡◌, ◌⊎◌, ℕ, List, Bool, true, false, Option, Some, None, refl}
use Rattle.std.specs.Coded.{Coded, code_by, coded_list, coded_ℕ, coded_bool, coded_option, coded×, coded⊎}
use Rattle.std.proofs.Common.{inl, inr, ap}
use Rattle.atomic_table.specs.Seated.{TableId, table_id_coded}
use Rattle.pl_term.specs.Tree.{Chars, Tree}
use Rattle.pl_term.specs.Nodes.{coded_tree}
use Rattle.pl_model.specs.Operators.{Specifier, Operator, xfx, xfy, yfx, fx, fy, xf, yf}
use Rattle.pl_model.specs.History.{Proc, Clause, Origin, Kind, Entry, consult, assert, add_first, add_last, erase, abolish, set_dynamic, set_flag, set_op, make_queue, drop_queue, send, take, start, finish, join}
use Rattle.pl_model.specs.declared.ends.SlotPass.{SlotPass}
use Rattle.pl_model.specs.declared.ends.WornHead.{WornHead}
use Rattle.pl_model.specs.declared.ends.AtomRecord.{AtomRecord}
use Rattle.pl_model.specs.declared.ends.AtomRecord.TheVariants.{Taken, WornBucket, WornEpoch}
use Rattle.pl_model.specs.declared.ends.How.{How}
use Rattle.pl_model.specs.declared.ends.How.TheVariants.{Solved, False, Threw, Exited, Halted, AtomSpace}
use Rattle.pl_history.specs.Fronts.{Life, FrontState}
use Rattle.pl_history.specs.Steps.{Part, View}

abbrev pub coded_chars : Coded Chars
coded_chars = coded_list coded_ℕ

abbrev pub coded_proc : Coded Proc
coded_proc =
    code_by (Chars × ℕ) (coded× coded_chars coded_ℕ) (λ p. (p.name, p.arity)) (λ t. record { name = t.0; arity = t.1 }) (λ _. refl)

abbrev pub coded_clause : Coded Clause
coded_clause =
    code_by
    (Tree × (Tree × ℕ))
    (coded× coded_tree (coded× coded_tree coded_ℕ))
    (λ c. (c.head, (c.body, c.variables)))
    (λ t. record { head = t.0; body = t.1.0; variables = t.1.1 })
    (λ _. refl)

abbrev pub origin_bit : Origin → Bool
origin_bit consult = true
origin_bit assert = false

abbrev pub origin_of : Bool → Origin
origin_of true = consult
origin_of false = assert

pub origin_back : (o : Origin) → origin_of (origin_bit o) ≡ o
origin_back consult = refl
origin_back assert = refl

abbrev pub coded_origin : Coded Origin
coded_origin = code_by Bool coded_bool origin_bit origin_of origin_back

abbrev pub specifier_bits : Specifier → Bool × (Bool × Bool)
specifier_bits xfx = (true, (true, true))
specifier_bits xfy = (true, (true, false))
specifier_bits yfx = (true, (false, true))
specifier_bits fx = (true, (false, false))
specifier_bits fy = (false, (true, true))
specifier_bits xf = (false, (true, false))
specifier_bits yf = (false, (false, true))

abbrev pub specifier_of : Bool × (Bool × Bool) → Specifier
specifier_of (true, (true, true)) = xfx
specifier_of (true, (true, false)) = xfy
specifier_of (true, (false, true)) = yfx
specifier_of (true, (false, false)) = fx
specifier_of (false, (true, true)) = fy
specifier_of (false, (true, false)) = xf
specifier_of (false, (false, _)) = yf

pub specifier_back : (s : Specifier) → specifier_of (specifier_bits s) ≡ s
specifier_back xfx = refl
specifier_back xfy = refl
specifier_back yfx = refl
specifier_back fx = refl
specifier_back fy = refl
specifier_back xf = refl
specifier_back yf = refl

abbrev pub coded_operator : Coded Operator
coded_operator =
    code_by
    (Chars × (ℕ × (Bool × (Bool × Bool))))
    (coded× coded_chars (coded× coded_ℕ (coded× coded_bool (coded× coded_bool coded_bool))))
    (λ o. (o.name, (o.priority, specifier_bits o.specifier)))
    (λ t. record { name = t.0; priority = t.1.0; specifier = specifier_of t.1.1 })
    (λ o. ap (λ s. record { name = o.name; priority = o.priority; specifier = s }) (specifier_back o.specifier))

abbrev pub coded_pass : Coded SlotPass
coded_pass =
    code_by
    (ℕ × (ℕ × (ℕ × ℕ)))
    (coded× coded_ℕ (coded× coded_ℕ (coded× coded_ℕ coded_ℕ)))
    (λ p. (p.counted, (p.seat, (p.began, p.ended))))
    (λ t. record { counted = t.0; seat = t.1.0; began = t.1.1.0; ended = t.1.1.1 })
    (λ _. refl)

abbrev pub coded_head : Coded WornHead
coded_head =
    code_by
    (ℕ × (ℕ × ℕ))
    (coded× coded_ℕ (coded× coded_ℕ coded_ℕ))
    (λ w. (w.head, (w.word, w.start)))
    (λ t. record { head = t.0; word = t.1.0; start = t.1.1 })
    (λ _. refl)

abbrev pub RecordParts : Type 0
RecordParts = (SlotPass × (ℕ × (ℕ × SlotPass))) ⊎ (WornHead ⊎ SlotPass)

abbrev pub record_parts : AtomRecord → RecordParts
record_parts (Taken earlier first second pass) = inl (earlier, (first, (second, pass)))
record_parts (WornBucket w) = inr (inl w)
record_parts (WornEpoch p) = inr (inr p)

abbrev pub record_of : RecordParts → AtomRecord
record_of (inl (earlier, (first, (second, pass)))) = Taken earlier first second pass
record_of (inr (inl w)) = WornBucket w
record_of (inr (inr p)) = WornEpoch p

pub record_back : (r : AtomRecord) → record_of (record_parts r) ≡ r
record_back (Taken earlier first second pass) = refl
record_back (WornBucket w) = refl
record_back (WornEpoch p) = refl

abbrev pub coded_record : Coded AtomRecord
coded_record =
    code_by
    RecordParts
    (coded⊎ (coded× coded_pass (coded× coded_ℕ (coded× coded_ℕ coded_pass))) (coded⊎ coded_head coded_pass))
    record_parts
    record_of
    record_back

abbrev pub HowParts : Type 0
HowParts = Option (Option Tree) ⊎ (Tree ⊎ (ℕ ⊎ AtomRecord))

abbrev pub how_parts : How Tree → HowParts
how_parts Solved = inl None
how_parts False = inl (Some None)
how_parts (Threw ball) = inl (Some (Some ball))
how_parts (Exited t) = inr (inl t)
how_parts (Halted n) = inr (inr (inl n))
how_parts (AtomSpace r) = inr (inr (inr r))

abbrev pub how_of : HowParts → How Tree
how_of (inl None) = Solved
how_of (inl (Some None)) = False
how_of (inl (Some (Some ball))) = Threw ball
how_of (inr (inl t)) = Exited t
how_of (inr (inr (inl n))) = Halted n
how_of (inr (inr (inr r))) = AtomSpace r

pub how_back : (h : How Tree) → how_of (how_parts h) ≡ h
how_back Solved = refl
how_back False = refl
how_back (Threw ball) = refl
how_back (Exited t) = refl
how_back (Halted n) = refl
how_back (AtomSpace r) = refl

abbrev pub coded_how : Coded (How Tree)
coded_how =
    code_by
    HowParts
    (coded⊎ (coded_option (coded_option coded_tree)) (coded⊎ coded_tree (coded⊎ coded_ℕ coded_record)))
    how_parts
    how_of
    how_back

-- The parts of an update of each kind: of clauses and procedures, of flags and operators, of queues, of threads.
abbrev pub Added : Type 0
Added = Proc × (Clause × Origin)

abbrev pub OfClauses : Type 0
OfClauses = (Added ⊎ Added) ⊎ (ℕ ⊎ (Proc ⊎ List Proc))

abbrev pub OfTables : Type 0
OfTables = (Chars × Chars) ⊎ List Operator

abbrev pub OfQueues : Type 0
OfQueues = ((ℕ × Option Chars) ⊎ ℕ) ⊎ ((ℕ × Tree) ⊎ ℕ)

abbrev pub OfThreads : Type 0
OfThreads = (ℕ × (Tree × Option Chars)) ⊎ ((How Tree × ℕ) ⊎ ℕ)

abbrev pub KindParts : Type 0
KindParts = (OfClauses ⊎ OfTables) ⊎ (OfQueues ⊎ OfThreads)

abbrev pub kind_parts : Kind → KindParts
kind_parts (add_first p c o) = inl (inl (inl (inl (p, (c, o)))))
kind_parts (add_last p c o) = inl (inl (inl (inr (p, (c, o)))))
kind_parts (erase n) = inl (inl (inr (inl n)))
kind_parts (abolish p) = inl (inl (inr (inr (inl p))))
kind_parts (set_dynamic ps) = inl (inl (inr (inr (inr ps))))
kind_parts (set_flag f v) = inl (inr (inl (f, v)))
kind_parts (set_op os) = inl (inr (inr os))
kind_parts (make_queue n a) = inr (inl (inl (inl (n, a))))
kind_parts (drop_queue n) = inr (inl (inl (inr n)))
kind_parts (send n t) = inr (inl (inr (inl (n, t))))
kind_parts (take n) = inr (inl (inr (inr n)))
kind_parts (start n t a) = inr (inr (inl (n, (t, a))))
kind_parts (finish h n) = inr (inr (inr (inl (h, n))))
kind_parts (join n) = inr (inr (inr (inr n)))

abbrev pub kind_of : KindParts → Kind
kind_of (inl (inl (inl (inl (p, (c, o)))))) = add_first p c o
kind_of (inl (inl (inl (inr (p, (c, o)))))) = add_last p c o
kind_of (inl (inl (inr (inl n)))) = erase n
kind_of (inl (inl (inr (inr (inl p))))) = abolish p
kind_of (inl (inl (inr (inr (inr ps))))) = set_dynamic ps
kind_of (inl (inr (inl (f, v)))) = set_flag f v
kind_of (inl (inr (inr os))) = set_op os
kind_of (inr (inl (inl (inl (n, a))))) = make_queue n a
kind_of (inr (inl (inl (inr n)))) = drop_queue n
kind_of (inr (inl (inr (inl (n, t))))) = send n t
kind_of (inr (inl (inr (inr n)))) = take n
kind_of (inr (inr (inl (n, (t, a))))) = start n t a
kind_of (inr (inr (inr (inl (h, n))))) = finish h n
kind_of (inr (inr (inr (inr n)))) = join n

pub kind_back : (k : Kind) → kind_of (kind_parts k) ≡ k
kind_back (add_first p c o) = refl
kind_back (add_last p c o) = refl
kind_back (erase n) = refl
kind_back (abolish p) = refl
kind_back (set_dynamic ps) = refl
kind_back (set_flag f v) = refl
kind_back (set_op os) = refl
kind_back (make_queue n a) = refl
kind_back (drop_queue n) = refl
kind_back (send n t) = refl
kind_back (take n) = refl
kind_back (start n t a) = refl
kind_back (finish h n) = refl
kind_back (join n) = refl

abbrev pub coded_added : Coded Added
coded_added = coded× coded_proc (coded× coded_clause coded_origin)

abbrev pub coded_kind_parts : Coded KindParts
coded_kind_parts =
    coded⊎
    (
    coded⊎
    (coded⊎ (coded⊎ coded_added coded_added) (coded⊎ coded_ℕ (coded⊎ coded_proc (coded_list coded_proc))))
    (coded⊎ (coded× coded_chars coded_chars) (coded_list coded_operator))
    )
    (
    coded⊎
    (
    coded⊎
    (coded⊎ (coded× coded_ℕ (coded_option coded_chars)) coded_ℕ)
    (coded⊎ (coded× coded_ℕ coded_tree) coded_ℕ)
    )
    (
    coded⊎
    (coded× coded_ℕ (coded× coded_tree (coded_option coded_chars)))
    (coded⊎ (coded× coded_how coded_ℕ) coded_ℕ)
    )
    )

abbrev pub coded_kind : Coded Kind
coded_kind = code_by KindParts coded_kind_parts kind_parts kind_of kind_back

abbrev pub coded_entry : Coded Entry
coded_entry =
    code_by (ℕ × Kind) (coded× coded_ℕ coded_kind) (λ x. (x.engine, x.kind)) (λ t. record { engine = t.0; kind = t.1 }) (λ _. refl)

abbrev pub coded_life : Coded Life
coded_life =
    code_by
    (ℕ × (List Kind × List ℕ))
    (coded× coded_ℕ (coded× (coded_list coded_kind) (coded_list coded_ℕ)))
    (λ l. (l.engine, (l.updates, l.generations)))
    (λ t. record { engine = t.0; updates = t.1.0; generations = t.1.1 })
    (λ _. refl)

abbrev pub coded_front : Coded FrontState
coded_front =
    code_by
    (TableId × (List Entry × List Life))
    (coded× table_id_coded (coded× (coded_list coded_entry) (coded_list coded_life)))
    (λ f. (f.table, (f.seen, f.lives)))
    (λ t. record { table = t.0; seen = t.1.0; lives = t.1.1 })
    (λ _. refl)

abbrev pub coded_part : Coded Part
coded_part =
    code_by
    (List Entry × List Life)
    (coded× (coded_list coded_entry) (coded_list coded_life))
    (λ p. (p.seen, p.lives))
    (λ t. record { seen = t.0; lives = t.1 })
    (λ _. refl)

abbrev pub coded_view : Coded View
coded_view =
    code_by
    (Option Part × List Part)
    (coded× (coded_option coded_part) (coded_list coded_part))
    (λ v. (v.hub, v.fronts))
    (λ t. record { hub = t.0; fronts = t.1 })
    (λ _. refl)
