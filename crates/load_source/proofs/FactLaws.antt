-- One fact after the other.
use Rattle.std.proofs.Common.{◌≡◌, ◌++◌, ℕ, suc, List, sym, ◌∙◌, ap, append_assoc}
use Rattle.load_source.specs.LoadSource.{fact, facts, next_random, value_of}

pub facts_more : (n m i x : ℕ) (before whole text : List ℕ)
    → m ≡ suc n
    → text ≡ before ++ fact i (value_of (next_random x))
    → before ++ facts m i x ≡ whole
    → text ++ facts n (suc i) (next_random x) ≡ whole
facts_more n m i x before whole text is put so =
    ap (λ (t : List ℕ). t ++ facts n (suc i) (next_random x)) put
    ∙ append_assoc before (fact i (value_of (next_random x))) (facts n (suc i) (next_random x))
    ∙ ap (λ (k : ℕ). before ++ facts k i x) (sym is)
    ∙ so

-- The parts of the source, one after the other.
pub put_all : (head digits dot fs end a b c d e : List ℕ)
    → a ≡ head
    → b ≡ a ++ digits
    → c ≡ b ++ dot
    → d ≡ c ++ fs
    → e ≡ d ++ end
    → e ≡ head ++ (digits ++ (dot ++ (fs ++ end)))
put_all head digits dot fs end a b c d e first second third fourth fifth =
    fifth
    ∙ ap (λ (t : List ℕ). t ++ end) (fourth ∙ ap (λ (t : List ℕ). t ++ fs) (third ∙ ap (λ (t : List ℕ). t ++ dot) (second ∙ ap (λ (t : List ℕ). t ++ digits) first)))
    ∙ append_assoc ((head ++ digits) ++ dot) fs end
    ∙ append_assoc (head ++ digits) dot (fs ++ end)
    ∙ append_assoc head digits (dot ++ (fs ++ end))
