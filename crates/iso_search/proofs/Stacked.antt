-- Lists of tasks by their numbers.
use Rattle.std.proofs.Common.{◌≡◌, ℕ, zero, suc, ◌+◌, ◌<◌, ◌≤◌, List, [], ◌∷◌, ◌++◌, length, get_or, take, drop, refl, sym, ap, subst, ◌∙◌, arith, length-append, append_assoc}
use Rattle.std.proofs.Math.Seq.{get_or-append_seam, split_at}
use Rattle.std.proofs.lemmas.List.{get_or_append_left, get_or_past, length-take-le}
use Rattle.iso_search.specs.declared.frames.Task.{Task}
use Rattle.iso_search.specs.declared.frames.Frame.{Frame}
use Rattle.iso_search.specs.Frames.{stacked, tasks, no_frame, AreLinked}

stacked-append : (fs gs : List Frame) (done : List (List Task)) → stacked (fs ++ gs) done ≡ stacked gs (stacked fs done)
stacked-append [] gs done = refl
stacked-append (f ∷ fs) gs done = stacked-append fs gs (done ++ (f.task ∷ get_or done f.continuation []) ∷ [])

length-stacked : (fs : List Frame) (done : List (List Task)) → length (stacked fs done) ≡ length done + length fs
length-stacked [] done = omega arith
length-stacked (f ∷ fs) done =
    length-stacked fs (done ++ (f.task ∷ get_or done f.continuation []) ∷ [])
    ∙ omega (arith, length-append done ((f.task ∷ get_or done f.continuation []) ∷ []))

stacked-keeps : (fs : List Frame) (done : List (List Task)) (k : ℕ) → k < length done → get_or (stacked fs done) k [] ≡ get_or done k []
stacked-keeps [] done k lt = refl
stacked-keeps (f ∷ fs) done k lt =
    stacked-keeps fs (done ++ (f.task ∷ get_or done f.continuation []) ∷ []) k (omega (arith, length-append done ((f.task ∷ get_or done f.continuation []) ∷ [])))
    ∙ get_or_append_left done ((f.task ∷ get_or done f.continuation []) ∷ []) [] k lt

pub tasks-zero : (fs : List Frame) → tasks fs zero ≡ []
unfolding tasks
tasks-zero fs = stacked-keeps fs ([] ∷ []) zero (omega arith)

pub tasks-past : (fs : List Frame) (i : ℕ) → length fs < i → tasks fs i ≡ []
unfolding tasks
tasks-past fs i lt = get_or_past (stacked fs ([] ∷ [])) i [] (omega (arith, length-stacked fs ([] ∷ [])))

-- A list stays what it is when more frames stand after.
pub tasks-append : (fs gs : List Frame) (i : ℕ) → i ≤ length fs → tasks (fs ++ gs) i ≡ tasks fs i
unfolding tasks
tasks-append fs gs i le =
    ap (λ l. get_or l i []) (stacked-append fs gs ([] ∷ []))
    ∙ stacked-keeps gs (stacked fs ([] ∷ [])) i (omega (arith, length-stacked fs ([] ∷ [])))

-- The newest list.
pub tasks-push : (fs : List Frame) (f : Frame) → tasks (fs ++ f ∷ []) (suc (length fs)) ≡ f.task ∷ tasks fs f.continuation
unfolding tasks
tasks-push fs f =
    ap (λ l. get_or l (suc (length fs)) []) (stacked-append fs (f ∷ []) ([] ∷ []))
    ∙ subst (λ k. get_or (stacked fs ([] ∷ []) ++ (f.task ∷ get_or (stacked fs ([] ∷ [])) f.continuation []) ∷ []) k [] ≡ f.task ∷ get_or (stacked fs ([] ∷ [])) f.continuation [])
    (length-stacked fs ([] ∷ []) ∙ one_more (length fs))
    (get_or-append_seam (stacked fs ([] ∷ [])) (f.task ∷ get_or (stacked fs ([] ∷ [])) f.continuation []) [] [])
  where
    one_more : (n : ℕ) → 1 + n ≡ suc n
    one_more n = omega arith

-- Any list by its frame.
pub tasks-at : (fs : List Frame) (k : ℕ) → AreLinked fs → k < length fs → tasks fs (suc k) ≡ (get_or fs k no_frame).task ∷ tasks fs (get_or fs k no_frame).continuation
tasks-at fs k linked lt =
    let f = get_or fs k no_frame in
    let e : fs ≡ take k fs ++ (f ∷ drop (suc k) fs) = split_at fs k no_frame lt in
    let e₂ : fs ≡ (take k fs ++ f ∷ []) ++ drop (suc k) fs = e ∙ sym (append_assoc (take k fs) (f ∷ []) (drop (suc k) fs)) in
    let long : length (take k fs) ≡ k = length-take-le k fs (omega arith) in
    let longer : length (take k fs ++ f ∷ []) ≡ k + 1 = length-append (take k fs) (f ∷ []) ∙ ap (λ n. n + 1) long in
    let below : f.continuation ≤ k = linked k lt in
    ap (λ l. tasks l (suc k)) e₂
    ∙ tasks-append (take k fs ++ f ∷ []) (drop (suc k) fs) (suc k) (omega (arith, longer))
    ∙ subst (λ n. tasks (take k fs ++ f ∷ []) (suc n) ≡ f.task ∷ tasks (take k fs) f.continuation) long (tasks-push (take k fs) f)
    ∙ ap (λ ts. f.task ∷ ts) (sym (tasks-append (take k fs) (f ∷ drop (suc k) fs) f.continuation (omega (arith, long))))
    ∙ ap (λ l. f.task ∷ tasks l f.continuation) (sym e)
