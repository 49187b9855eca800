-- Lists of accesses and of tasks, one more at their end.
use Rattle.std.proofs.Common.{◌≡◌, ℕ, ◌+◌, ◌<◌, List, [], ◌∷◌, ◌++◌, Bool, true, false, cond, eqb, length, take, get_or, refl, ap, sym, ◌∙◌, append-nil, arith}
use Rattle.std.proofs.lemmas.List.{take_more}
use Rattle.vm_free.specs.Orders.{occurrences}
use Rattle.vm_litmus.specs.Parts.{loads_of, tasks_of}
use Rattle.vm_litmus.specs.declared.parts.FreeAccess.{FreeAccess}

one_or_none : (is : Bool) (n : ℕ) → cond is 1 0 + n ≡ cond is (1 + n) n
one_or_none true n = refl
one_or_none false n = omega arith

pub occurrences-step : (t u : ℕ) (tasks : List ℕ) → occurrences t (u ∷ tasks) ≡ cond (eqb u t) (1 + occurrences t tasks) (occurrences t tasks)
occurrences-step t u tasks = one_or_none (eqb u t) (occurrences t tasks)

pub tasks_of-push : (accesses : List FreeAccess) (access : FreeAccess) → tasks_of (accesses ++ access ∷ []) ≡ tasks_of accesses ++ access.task ∷ []
tasks_of-push [] access = refl
tasks_of-push (first ∷ more) access = ap (λ z. first.task ∷ z) (tasks_of-push more access)

with_load : (loads : Bool) (first : FreeAccess) (a b : List FreeAccess) → cond loads (first ∷ (a ++ b)) (a ++ b) ≡ cond loads (first ∷ a) a ++ b
with_load true first a b = refl
with_load false first a b = refl

pub loads_of-push : (accesses : List FreeAccess) (access : FreeAccess)
    → loads_of (accesses ++ access ∷ []) ≡ loads_of accesses ++ cond access.loads (access ∷ []) []
loads_of-push [] access = refl
loads_of-push (first ∷ more) access =
    ap (λ z. cond first.loads (first ∷ z) z) (loads_of-push more access) ∙ with_load first.loads first (loads_of more) (cond access.loads (access ∷ []) [])

pub tasks_of-more : (accesses : List FreeAccess) (i : ℕ) (d : FreeAccess) → i < length accesses
    → tasks_of (take i accesses) ++ (get_or accesses i d).task ∷ [] ≡ tasks_of (take (i + 1) accesses)
tasks_of-more accesses i d inside = sym (ap tasks_of (take_more accesses i d inside) ∙ tasks_of-push (take i accesses) (get_or accesses i d))

loads_of-more : (accesses : List FreeAccess) (i : ℕ) (d : FreeAccess) (now : Bool) → i < length accesses → (get_or accesses i d).loads ≡ now
    → loads_of (take i accesses) ++ cond now (get_or accesses i d ∷ []) [] ≡ loads_of (take (i + 1) accesses)
loads_of-more accesses i d now inside is =
    sym (ap loads_of (take_more accesses i d inside) ∙ (loads_of-push (take i accesses) (get_or accesses i d)
    ∙ ap (λ z. loads_of (take i accesses) ++ cond z (get_or accesses i d ∷ []) []) is))

pub loads_of-load : (accesses : List FreeAccess) (i : ℕ) (d : FreeAccess) → i < length accesses → (get_or accesses i d).loads ≡ true
    → loads_of (take i accesses) ++ get_or accesses i d ∷ [] ≡ loads_of (take (i + 1) accesses)
loads_of-load accesses i d inside is = loads_of-more accesses i d true inside is

pub loads_of-store : (accesses : List FreeAccess) (i : ℕ) (d : FreeAccess) → i < length accesses → (get_or accesses i d).loads ≡ false
    → loads_of (take i accesses) ≡ loads_of (take (i + 1) accesses)
loads_of-store accesses i d inside is = sym (append-nil (loads_of (take i accesses))) ∙ loads_of-more accesses i d false inside is
