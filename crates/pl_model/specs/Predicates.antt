-- Predicates of goals (ISO 7.1.6.6), and clauses that a goal's first argument excludes.
use Rattle.std.specs.Prelude.{suc, [], Bool, true, false, ◌==◌, ◌&&◌, not, bytes_eq, codes}
use Rattle.std.specs.Ordering.{int_eq}
use Rattle.pl_term.specs.Tree.{Tree, var, int, atom, comp, count}
use Rattle.pl_model.specs.History.{Proc}

abbrev pub same_proc : Proc → Proc → Bool
same_proc p q = bytes_eq p.name q.name && (p.arity == q.arity)

-- Whether two first arguments cannot be equal by their kinds, constants, names and arities alone.
abbrev pub differ_at_first : Tree → Tree → Bool
differ_at_first (var x) u = false
differ_at_first t (var y) = false
differ_at_first (int i) (int j) = not (int_eq i j)
differ_at_first (atom a) (atom b) = not (bytes_eq a b)
differ_at_first (comp f t ts) (comp g u us) = not (bytes_eq f g && (count ts == count us))
differ_at_first _ _ = true

-- Whether the clause cannot be the one for the goal by their first arguments.
abbrev pub is_excluded : Tree → Tree → Bool
is_excluded (comp f t ts) (comp g u us) = differ_at_first t u
is_excluded _ _ = false

-- The predicate indicator of a goal (ISO 7.1.6.6). A variable stands for call/1 of it.
abbrev pub proc_of : Tree → Proc
proc_of (var x) = record { name = codes "call"; arity = 1 }
proc_of (int i) = record { name = []; arity = 0 }
proc_of (atom a) = record { name = a; arity = 0 }
proc_of (comp f t ts) = record { name = f; arity = suc (count ts) }
