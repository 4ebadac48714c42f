-- The source of the command `load`: facts with numbers that are drawn from a seed, and the clauses that run over them.
use Rattle.std.specs.Prelude.{ℕ, zero, suc, ◌+◌, ◌*◌, ◌/◌, ◌%◌, List, [], ◌++◌, codes, decimal}

-- The numbers are those of a linear congruential generator; a fact has the upper bits of its number, below 1000.
abbrev pub next_random : ℕ → ℕ
next_random x = (1103515245 * x + 12345) % 2147483648

abbrev pub value_of : ℕ → ℕ
value_of x = (x / 65536) % 1000

-- The fact that the number with this index is this.
abbrev pub fact : ℕ → ℕ → List ℕ
fact i v = codes "v(" ++ (decimal i ++ (codes "," ++ (decimal v ++ codes ").\n")))

-- So many facts, from this index on, after this number.
abbrev pub facts : ℕ → ℕ → ℕ → List ℕ
facts zero i x = []
facts (suc n) i x = fact i (value_of (next_random x)) ++ facts n (suc i) (next_random x)

-- Four threads put the numbers into the database and send them to the first one, which adds them up, and counts at the end how many
-- different ones there are.
abbrev pub clauses : List ℕ
clauses =
    codes
    ":- dynamic(item/2).\nput(I,N) :- I > N, !.\nput(I,N) :- v(I,V), number_codes(V,C), atom_codes(A,[0'a|C]), assertz(item(A,V)),\n            thread_send_message(main,m(A,V)), J is I+4, put(J,N).\nstart(5,_,[]) :- !.\nstart(K,N,[T|Ts]) :- thread_create(put(K,N),T,[]), L is K+1, start(L,N,Ts).\njoin([]).\njoin([T|Ts]) :- thread_join(T,true), join(Ts).\ntake(0,S,S) :- !.\ntake(N,A,S) :- thread_get_message(m(_,V)), B is A+V, M is N-1, take(M,B,S).\nlen([],N,N).\nlen([_|T],I,N) :- J is I+1, len(T,J,N).\nload :- size(N), start(1,N,Ts), take(N,0,S), join(Ts), findall(A,item(A,_),L), sort(L,D),\n        len(D,0,K), write(N), write(' '), write(S), write(' '), write(K), nl.\n"

-- The bytes of the source with so many numbers.
abbrev pub load_source : ℕ → ℕ → List ℕ
load_source seed size = codes "size(" ++ (decimal size ++ (codes ").\n" ++ (facts size 1 seed ++ clauses)))
