-- How many pages are listed once a victim was looked for, and once it has gone.
use Rattle.std.proofs.Common.{◌≡◌, ◌∙◌, ℕ, ◌+◌, ◌||◌, ◌==◌, Bool, true, false, List, [], ◌∷◌, ◌++◌, length, map, take, if◌then◌else◌, inl, inr, refl, sym, ap}
use Rattle.std.proofs.Common.{arith}
use Rattle.std.proofs.lemmas.Bool.Decides.{eqb_tells}
use Rattle.std.proofs.lemmas.List.{length-append, length-drop, length-map, length-take-le}
use Rattle.vm_pageout.specs.Reclaims.{queues_after_search}
use Rattle.vm_parts.specs.Listed.{listed_pages}
use Rattle.vm_queues.proofs.Balance.{count_front}
use Rattle.vm_queues.specs.Queues.{EachOnce, Page, Queues, balanced, cleared, from_unreferenced, has_page, is_queued, pages_except, queues_except}
use Rattle.vm_queues.specs.Queues.{referenced_front, shortage, spared}

listed_balanced : (q : Queues) → listed_pages (balanced q) ≡ listed_pages q
listed_balanced q =
    let k = shortage q in
    let left = length-drop k q.active in
    let more = length-append q.inactive (map cleared (take k q.active)) in
    let went = length-map (take k q.active) cleared in
    let count = length-take-le k q.active (omega arith) in
    omega (arith, left, more, went, count)

listed_spared : (q : Queues) → listed_pages (spared q) ≡ listed_pages q
listed_spared q =
    let turned : Queues = record q { active = q.active ++ map cleared (referenced_front q.inactive); inactive = from_unreferenced q.inactive } in
    let front = count_front q.inactive in
    let more = length-append q.active (map cleared (referenced_front q.inactive)) in
    let went = length-map (referenced_front q.inactive) cleared in
    let same : listed_pages turned ≡ listed_pages q = omega (arith, front, more, went) in
    listed_balanced turned ∙ same

-- as many pages are listed
pub listed_searched : (q : Queues) → listed_pages (queues_after_search q) ≡ listed_pages q
listed_searched q = listed_spared (balanced q) ∙ listed_balanced q

none_gone : (f : ℕ) (pages : List Page) → has_page pages f ≡ false → length (pages_except f pages) ≡ length pages
none_gone f [] none = refl
none_gone f (page ∷ pages) none = at (page.frame == f) (none_gone f pages) none
  where
    at : (is : Bool) → (has_page pages f ≡ false → length (pages_except f pages) ≡ length pages) → (is || has_page pages f) ≡ false
        → length (if is then pages_except f pages else page ∷ pages_except f pages) ≡ length (page ∷ pages)
    at true rest none = absurd (let bad : true ≡ false = none in cc)
    at false rest none = let same = rest none in omega arith

one_gone : (f : ℕ) (pages : List Page) → EachOnce pages → has_page pages f ≡ true → length (pages_except f pages) + 1 ≡ length pages
one_gone f [] once has = absurd (let bad : false ≡ true = has in cc)
one_gone f (page ∷ pages) once has = elim (eqb_tells page.frame f) [
  | inl is ↦
      let none : has_page pages f ≡ false = ap (has_page pages) (sym is.1) ∙ once.0 in
      let rest = none_gone f pages none in
      rw is.0 (omega arith)
  | inr apart ↦
      let there : has_page pages f ≡ true = ap (λ (b : Bool). b || has_page pages f) (sym apart.0) ∙ has in
      let rest = one_gone f pages once.1 there in
      rw apart.0 (omega arith)
]

except_append : (f : ℕ) (xs ys : List Page) → pages_except f (xs ++ ys) ≡ pages_except f xs ++ pages_except f ys
except_append f [] ys = refl
except_append f (x ∷ xs) ys = at (x.frame == f) (except_append f xs ys)
  where
    at : (is : Bool) → pages_except f (xs ++ ys) ≡ pages_except f xs ++ pages_except f ys
        → (if is then pages_except f (xs ++ ys) else x ∷ pages_except f (xs ++ ys)) ≡ (if is then pages_except f xs else x ∷ pages_except f xs) ++ pages_except
        f ys
    at true rest = rest
    at false rest = ap (λ z. x ∷ z) rest

-- one page less is listed
pub listed_gone : (f : ℕ) (old new : Queues) → EachOnce (old.inactive ++ old.active) → is_queued old f ≡ true → new ≡ queues_except f old
    → listed_pages new + 1 ≡ listed_pages old
listed_gone f old new once is out =
    let gone = one_gone f (old.inactive ++ old.active) once is in
    let parts = ap length (except_append f old.inactive old.active) in
    let new_parts = length-append (pages_except f old.inactive) (pages_except f old.active) in
    let old_parts = length-append old.inactive old.active in
    let same = ap listed_pages out in
    omega (arith, gone, parts, new_parts, old_parts, same)
