-- What is known of pages after a write to their group.
use Rattle.std.proofs.Common.{ℕ, zero, suc, ◌≡◌, ◌<◌, ◌≤◌, ◌+◌, ◌/◌, ◌%◌, ◌==◌, Bool, true, false, List, Option, Some, None, inl, inr, refl, sym, ◌∙◌, ap, subst, ⊎_elim, arith}
use native.Mathlib.Decide.{ℕ_discrete}
use Rattle.std.proofs.lemmas.Bool.{cases_Bool, false≢true}
use Rattle.std.proofs.lemmas.Bool.Decides.{eqb_tells, nat_tests}
use Rattle.std.specs.Option.{option_map_or, unwrap_or}
use Rattle.std.specs.Prelude.{◌&&◌, IsSome, if◌then◌else◌, replicate, slice_index}
use Rattle.vm_base.proofs.Keys.{page_read}
use Rattle.vm_base.specs.Keys.{is_page}
use Rattle.vm_base.specs.declared.ids.ObjectId.{ObjectId}
use Rattle.vm_base.specs.declared.ids.PageKey.{PageKey}
use Rattle.vm_sets.proofs.Bits.{bits_put}
use Rattle.vm_sets.specs.Bits.{WritesBit}
use Rattle.vm_sets.specs.Places.{Marks, PlaceTable, Touches, all_marks, end_of, group_at, has_mark, has_mark_among, known_of, pages_in, place_in, spot_of, word_of}
use Rattle.vm_sets.specs.declared.group_key.GroupKey.{GroupKey}
use Rattle.vm_sets.specs.declared.page_places.Group.{Group}
use Rattle.vm_sets.specs.declared.page_places.ObjectPages.{ObjectPages}

-- one group is this now, and each other is what it was
abbrev pub WritesGroup : GroupKey → Group → List (GroupKey × Group) → List (GroupKey × Group) → Type 0
WritesGroup key group old new = (o g : ℕ) → group_at o g new ≡ (if key.object.0 == o && key.group == g then Some group else group_at o g old)

-- the table says of a group what this one does
pub record Agrees (key : GroupKey) (group : Group) (groups : List (GroupKey × Group)) : Type 0 where
  pub words : (k : ℕ) → word_of k key.object.0 groups key.group ≡ slice_index group.words k
  pub spots : (i : ℕ) → spot_of key.object.0 groups key.group i ≡ slice_index group.places i

pub agrees_there : (key : GroupKey) (group : Group) (groups : List (GroupKey × Group)) → group_at key.object.0 key.group groups ≡ Some group
    → Agrees key group groups
agrees_there key group groups is = record {
  words = λ k. ap (λ (o : Option Group). option_map_or (λ (g : Group). slice_index g.words k) o 0) is;
  spots = λ i. ap (λ (o : Option Group). option_map_or (λ (g : Group). slice_index g.places i) o 0) is;
}

zeros : (n i : ℕ) → slice_index (replicate n 0) i ≡ 0
zeros zero i = refl
zeros (suc n) zero = refl
zeros (suc n) (suc i) = zeros n i

pub agrees_or_none : (key : GroupKey) (group none : Group) (groups : List (GroupKey × Group)) → group ≡ unwrap_or (group_at key.object.0 key.group groups) none
    → none.words ≡ replicate 10 0 → none.places ≡ replicate 64 0 → Agrees key group groups
agrees_or_none key group none groups is words places = record {
  words = λ k. one k (group_at key.object.0 key.group groups) ∙ ap (λ (g : Group). slice_index g.words k) (sym is);
  spots = λ i. two i (group_at key.object.0 key.group groups) ∙ ap (λ (g : Group). slice_index g.places i) (sym is);
} where
  one : (k : ℕ) (o : Option Group) → option_map_or (λ (g : Group). slice_index g.words k) o 0 ≡ slice_index (unwrap_or o none).words k
  one k None = sym (ap (λ ws. slice_index ws k) words ∙ zeros 10 k)
  one k (Some g) = refl

  two : (i : ℕ) (o : Option Group) → option_map_or (λ (g : Group). slice_index g.places i) o 0 ≡ slice_index (unwrap_or o none).places i
  two i None = sym (ap (λ ws. slice_index ws i) places ∙ zeros 64 i)
  two i (Some g) = refl

-- a group of a page is written
pub record Writes (key : PageKey) (group : GroupKey) (was now : Group) (old new : List (GroupKey × Group)) : Type 0 where
  pub object : group.object ≡ key.object
  pub of : group.group ≡ key.page.0 / 64
  pub agrees : Agrees group was old
  pub writes : WritesGroup group now old new

-- the word of a group after the write
word_after : (key : PageKey) (group : GroupKey) (was now : Group) (old new : List (GroupKey × Group)) (k : ℕ) → Writes key group was now old new
    → (o g : ℕ) → word_of k o new g ≡ (if group.object.0 == o && group.group == g then slice_index now.words k else word_of k o old g)
word_after key group was now old new k w o g =
    ap (λ (x : Option Group). option_map_or (λ (y : Group). slice_index y.words k) x 0) (w.writes o g) ∙ by (group.object.0 == o && group.group == g)
  where
    by : (b : Bool) → option_map_or (λ (y : Group). slice_index y.words k) (if b then Some now else group_at o g old) 0
        ≡ (if b then slice_index now.words k else word_of k o old g)
    by true = refl
    by false = refl

pub mark_written : (key : PageKey) (group : GroupKey) (was now : Group) (old new : List (GroupKey × Group)) (k : ℕ) (set : Bool)
    → Writes key group was now old new → WritesBit (key.page.0 % 64) set (slice_index was.words k) (slice_index now.words k)
    → (o p : ℕ) → has_mark_among new k o p ≡ (if is_page key o p then set else has_mark_among old k o p)
mark_written key group was now old new k set w bit =
    bits_put (λ o. word_of k o old) (λ o. word_of k o new) key group (slice_index now.words k) set w.object w.of (rw w.agrees.words bit)
    (word_after key group was now old new k w)

-- a function of an object and a group that is the same there is the same everywhere
same_there : (f g : ℕ → ℕ → ℕ) (group : GroupKey) (n : ℕ) → ((o h : ℕ) → g o h ≡ (if group.object.0 == o && group.group == h then n else f o h))
    → f group.object.0 group.group ≡ n → (o h : ℕ) → g o h ≡ f o h
same_there f g group n writes same o h = elim (eqb_tells group.object.0 o) [
  | inl one ↦ elim (eqb_tells group.group h) [
    | inl two ↦ rw (one.0, two.0) at (writes o h) ∙ (sym same ∙ (ap (λ z. f z group.group) one.1 ∙ ap (f o) two.1))
    | inr apart ↦ rw (one.0, apart.0) at (writes o h)
  ]
  | inr apart ↦ rw apart.0 at (writes o h)
]

pub mark_kept : (key : PageKey) (group : GroupKey) (was now : Group) (old new : List (GroupKey × Group)) (k : ℕ) → Writes key group was now old new
    → slice_index now.words k ≡ slice_index was.words k → (o p : ℕ) → has_mark_among new k o p ≡ has_mark_among old k o p
mark_kept key group was now old new k w same o p =
    let word = same_there (λ o. word_of k o old) (λ o. word_of k o new) group (slice_index now.words k) (word_after key group was now old new k w)
    (w.agrees.words k ∙ sym same) o (p / 64) in
    rw word refl

spot_after : (key : PageKey) (group : GroupKey) (was now : Group) (old new : List (GroupKey × Group)) (i : ℕ) → Writes key group was now old new
    → (o g : ℕ) → spot_of o new g i ≡ (if group.object.0 == o && group.group == g then slice_index now.places i else spot_of o old g i)
spot_after key group was now old new i w o g =
    ap (λ (x : Option Group). option_map_or (λ (y : Group). slice_index y.places i) x 0) (w.writes o g) ∙ by (group.object.0 == o && group.group == g)
  where
    by : (b : Bool) → option_map_or (λ (y : Group). slice_index y.places i) (if b then Some now else group_at o g old) 0
        ≡ (if b then slice_index now.places i else spot_of o old g i)
    by true = refl
    by false = refl

spot_kept : (key : PageKey) (group : GroupKey) (was now : Group) (old new : List (GroupKey × Group)) (i : ℕ) → Writes key group was now old new
    → slice_index now.places i ≡ slice_index was.places i → (o g : ℕ) → spot_of o new g i ≡ spot_of o old g i
spot_kept key group was now old new i w same o g =
    same_there (λ o g. spot_of o old g i) (λ o g. spot_of o new g i) group (slice_index now.places i) (spot_after key group was now old new i w)
    (w.agrees.spots i ∙ sym same) o g

-- all pages stand where they did
pub places_kept : (key : PageKey) (group : GroupKey) (was now : Group) (old new : PlaceTable) → Writes key group was now old.groups new.groups
    → now.places ≡ was.places → ((o p : ℕ) → has_mark new all_marks o p ≡ has_mark old all_marks o p) → (o p : ℕ) → place_in new o p ≡ place_in old o p
places_kept key group was now old new w places same o p =
    let spot = spot_kept key group was now old.groups new.groups (p % 64) w (ap (λ xs. slice_index xs (p % 64)) places) o (p / 64) in
    rw (same o p, spot) refl

-- a page that stands in the list has all marks now, as it had that of standing there
stood : (b : Bool) (x : ℕ) → IsSome (if b then Some x else None) → b ≡ true
stood true x some = refl
stood false x some = absurd (false≢true some)

stands_still : (key : PageKey) (old new : PlaceTable) → IsSome (place_in old key.object.0 key.page.0)
    → ((o p : ℕ) → has_mark new all_marks o p ≡ (if is_page key o p then true else has_mark old all_marks o p))
    → (o p : ℕ) → has_mark new all_marks o p ≡ has_mark old all_marks o p
stands_still key old new some marks o p =
    ⊎_elim
    (λ (here : is_page key o p ≡ true).
    let read = page_read key o p here in
    let there = stood (has_mark old all_marks key.object.0 key.page.0) _ some in
    let was : has_mark old all_marks o p ≡ true = rw (read.object, read.page) at there in
    rw here at (marks o p) ∙ sym was)
    (λ (apart : is_page key o p ≡ false). rw apart at (marks o p))
    (cases_Bool (is_page key o p))

pub touched : (key : PageKey) (group : GroupKey) (was now : Group) (old new : PlaceTable) → IsSome (place_in old key.object.0 key.page.0)
    → Writes key group was now old.groups new.groups
    → ((k : ℕ) → k ≤ all_marks → WritesBit (key.page.0 % 64) true (slice_index was.words k) (slice_index now.words k)) → now.places ≡ was.places
    → new.objects ≡ old.objects → new.spare ≡ old.spare → Touches key old new
touched key group was now old new some w bits places objects spare =
    let marks : (k o p : ℕ) → k ≤ all_marks → has_mark new k o p ≡ (if is_page key o p then true else has_mark old k o p) = λ k o p le.
    mark_written key group was now old.groups new.groups k true w (bits k le) o p in
    record {
      kept = record {
        places = places_kept key group was now old new w places (stands_still key old new some (λ o p. marks all_marks o p (omega arith)));
        objects = objects;
        spare = spare;
      };
      marks = marks;
    }

pub unmarked : (mark : ℕ) (key : PageKey) (group : GroupKey) (was now : Group) (old new : PlaceTable) → mark < all_marks
    → Writes key group was now old.groups new.groups
    → WritesBit (key.page.0 % 64) false (slice_index was.words mark) (slice_index now.words mark)
    → ((k : ℕ) → (k ≡ mark → ⊥) → slice_index now.words k ≡ slice_index was.words k) → now.places ≡ was.places
    → new.objects ≡ old.objects → new.spare ≡ old.spare → Marks mark key false old new
unmarked mark key group was now old new low w bit others places objects spare = record {
  kept = record {
    places = places_kept key group was now old new w places (λ o p. mark_kept key group was now old.groups new.groups all_marks w
        (others all_marks (λ e. omega arith)) o p);
    objects = objects;
    spare = spare;
  };
  at = mark_written key group was now old.groups new.groups mark false w bit;
  others = λ k o p le apart. mark_kept key group was now old.groups new.groups k w (others k apart) o p;
}

-- pages with a mark stand in the list

abbrev pub AllPlaced : PlaceTable → Type 0
AllPlaced table = (k o p : ℕ) → k ≤ all_marks → has_mark table k o p ≡ true → has_mark table all_marks o p ≡ true

pub placed_touched : (key : PageKey) (old new : PlaceTable)
    → ((k o p : ℕ) → k ≤ all_marks → has_mark new k o p ≡ (if is_page key o p then true else has_mark old k o p)) → AllPlaced old → AllPlaced new
placed_touched key old new marks placed k o p le marked =
    ⊎_elim
    (λ (here : is_page key o p ≡ true). rw here at (marks all_marks o p (omega arith)))
    (λ (apart : is_page key o p ≡ false).
    let was : has_mark old k o p ≡ true = sym (rw apart at (marks k o p le)) ∙ marked in
    rw apart at (marks all_marks o p (omega arith)) ∙ placed k o p le was)
    (cases_Bool (is_page key o p))

pub placed_unmarked : (mark : ℕ) (key : PageKey) (old new : PlaceTable) → mark < all_marks → Marks mark key false old new → AllPlaced old → AllPlaced new
placed_unmarked mark key old new low marks placed k o p le marked =
    let keeps = marks.others all_marks o p (omega arith) (λ e. omega arith) in
    keeps ∙ placed k o p le (elim (ℕ_discrete k mark) [
      | yes e ↦ ap (λ n. has_mark old n o p) e ∙ by (is_page key o p) (sym (marks.at o p) ∙ (ap (λ n. has_mark new n o p) (sym e) ∙ marked))
      | no e ↦ sym (marks.others k o p le e) ∙ marked
    ])
  where
    by : (b : Bool) → (if b then false else has_mark old mark o p) ≡ true → has_mark old mark o p ≡ true
    by true is = absurd (false≢true is)
    by false is = is

-- the groups of each object are below its end

pub within_written : (old new : List (GroupKey × Group)) (key : GroupKey) (group : Group) (was now : List (ObjectId × ObjectPages)) → WritesGroup key group old new
    → ((o : ℕ) → end_of o was ≤ end_of o now) → key.group < end_of key.object.0 now
    → ((o g : ℕ) (x : Group) → group_at o g old ≡ Some x → g < end_of o was)
    → (o g : ℕ) (x : Group) → group_at o g new ≡ Some x → g < end_of o now
within_written old new key group was now writes wider less within o g x is = elim (eqb_tells key.object.0 o) [
  | inl one ↦ elim (eqb_tells key.group g) [
    | inl two ↦ subst (λ (n : ℕ). n < end_of o now) two.1 (subst (λ (n : ℕ). key.group < end_of n now) one.1 less)
    | inr apart ↦
        let stays : group_at o g new ≡ group_at o g old = rw (one.0, apart.0) at (writes o g) in
        omega (arith, within o g x (sym stays ∙ is), wider o)
  ]
  | inr apart ↦
      let stays : group_at o g new ≡ group_at o g old = rw apart.0 at (writes o g) in
      omega (arith, within o g x (sym stays ∙ is), wider o)
]

-- a page is put at a place

spot_put : (key : PageKey) (group : GroupKey) (was now : Group) (old new : List (GroupKey × Group)) (at : ℕ) → Writes key group was now old new
    → slice_index now.places (key.page.0 % 64) ≡ at
    → ((i : ℕ) → (i ≡ key.page.0 % 64 → ⊥) → slice_index now.places i ≡ slice_index was.places i)
    → (o p : ℕ) → spot_of o new (p / 64) (p % 64) ≡ (if is_page key o p then at else spot_of o old (p / 64) (p % 64))
spot_put key group was now old new at w there others o p =
    let after = spot_after key group was now old new (p % 64) w o (p / 64) in
    let of = w.of in
    let object : key.object.0 ≡ group.object.0 = ap (λ (id : ObjectId). id.0) (sym w.object) in
    ⊎_elim
    (λ (here : is_page key o p ≡ true).
    let read = page_read key o p here in
    let one : (group.object.0 == o) ≡ true = grind (arith, nat_tests, read.object, object) in
    let two : (group.group == p / 64) ≡ true = (let e : group.group ≡ p / 64 = of ∙ ap (λ n. n / 64) read.page in grind (arith, nat_tests)) in
    rw (one, two) at after ∙ (ap (λ n. slice_index now.places (n % 64)) (sym read.page) ∙ (there ∙ sym (rw here refl))))
    (λ (apart : is_page key o p ≡ false).
    rw apart (elim (eqb_tells group.object.0 o) [
      | inl one ↦ elim (eqb_tells group.group (p / 64)) [
        | inl two ↦ elim (ℕ_discrete (p % 64) (key.page.0 % 64)) [
          | yes e ↦
              let page : key.page.0 ≡ p = omega (arith, e, two.1, of) in
              absurd (false≢true (sym apart ∙ grind (arith, nat_tests, object, one.1, page)))
          | no e ↦ spot_kept key group was now old new (p % 64) w (others (p % 64) e) o (p / 64)
        ]
        | inr other ↦ rw (one.0, other.0) at after
      ]
      | inr other ↦ rw other.0 at after
    ]))
    (cases_Bool (is_page key o p))

pub put_there : (key : PageKey) (group : GroupKey) (was now : Group) (old new : PlaceTable) (at : ℕ) → Writes key group was now old.groups new.groups
    → slice_index now.places (key.page.0 % 64) ≡ at
    → ((i : ℕ) → (i ≡ key.page.0 % 64 → ⊥) → slice_index now.places i ≡ slice_index was.places i)
    → ((o p : ℕ) → has_mark new all_marks o p ≡ (if is_page key o p then true else has_mark old all_marks o p))
    → (o p : ℕ) → place_in new o p ≡ (if is_page key o p then Some at else place_in old o p)
put_there key group was now old new at w there others marks o p =
    let spot = spot_put key group was now old.groups new.groups at w there others o p in
    rw (marks o p, spot) (by (is_page key o p))
  where
    by : (b : Bool) → (if (if b then true else has_mark old all_marks o p) then Some (if b then at else spot_of o old.groups (p / 64) (p % 64)) else None)
        ≡ (if b then Some at else place_in old o p)
    by true = refl
    by false = refl

abbrev pub WritesKnown : ObjectId → ObjectPages → List (ObjectId × ObjectPages) → List (ObjectId × ObjectPages) → Type 0
WritesKnown id now old new = (o : ℕ) → known_of o new ≡ (if id.0 == o then Some now else known_of o old)

pub pages_written : (id : ObjectId) (now : ObjectPages) (old new : PlaceTable) → WritesKnown id now old.objects new.objects
    → now.pages ≡ pages_in old id.0 + 1 → (o : ℕ) → pages_in new o ≡ (if id.0 == o then 1 else 0) + pages_in old o
pages_written id now old new writes more o = elim (eqb_tells id.0 o) [
  | inl one ↦
      let known : known_of o new.objects ≡ Some now = rw one.0 at (writes o) in
      let pages : pages_in new o ≡ now.pages = ap (λ (k : Option ObjectPages). option_map_or (λ (x : ObjectPages). x.pages) k 0) known in
      let same : pages_in old id.0 ≡ pages_in old o = ap (pages_in old) one.1 in
      rw one.0 (omega (arith, pages, same, more))
  | inr apart ↦
      let known : known_of o new.objects ≡ known_of o old.objects = rw apart.0 at (writes o) in
      let pages : pages_in new o ≡ pages_in old o = ap (λ (k : Option ObjectPages). option_map_or (λ (x : ObjectPages). x.pages) k 0) known in
      rw apart.0 (omega (arith, pages))
]

-- the end of an object that is known now, and of each other
end_known : (id : ObjectId) (now : ObjectPages) (old new : List (ObjectId × ObjectPages)) → WritesKnown id now old new → end_of id.0 new ≡ now.end
end_known id now old new writes =
    let same : (id.0 == id.0) ≡ true = grind (arith, nat_tests) in
    ap (λ (k : Option ObjectPages). option_map_or (λ (x : ObjectPages). x.end) k 0) (rw same at (writes id.0))

pub ends_wider : (id : ObjectId) (now : ObjectPages) (old new : List (ObjectId × ObjectPages)) → WritesKnown id now old new → end_of id.0 old ≤ now.end
    → (o : ℕ) → end_of o old ≤ end_of o new
ends_wider id now old new writes wider o = elim (eqb_tells id.0 o) [
  | inl one ↦ subst (λ (n : ℕ). end_of n old ≤ end_of n new) one.1 (let end = end_known id now old new writes in omega (arith, end))
  | inr apart ↦
      let same : end_of o new ≡ end_of o old = ap (λ (k : Option ObjectPages). option_map_or (λ (x : ObjectPages). x.end) k 0) (rw apart.0 at (writes o)) in
      omega (arith, same)
]

pub ends_low : (id : ObjectId) (now : ObjectPages) (old new : List (ObjectId × ObjectPages)) (bound : ℕ) → WritesKnown id now old new → now.end ≤ bound
    → ((o : ℕ) → end_of o old ≤ bound) → (o : ℕ) → end_of o new ≤ bound
ends_low id now old new bound writes less low o = elim (eqb_tells id.0 o) [
  | inl one ↦ subst (λ (n : ℕ). end_of n new ≤ bound) one.1 (let end = end_known id now old new writes in omega (arith, end))
  | inr apart ↦
      let same : end_of o new ≡ end_of o old = ap (λ (k : Option ObjectPages). option_map_or (λ (x : ObjectPages). x.end) k 0) (rw apart.0 at (writes o)) in
      omega (arith, same, low o)
]

pub end_above : (id : ObjectId) (now : ObjectPages) (old new : List (ObjectId × ObjectPages)) (g : ℕ) → WritesKnown id now old new → g < now.end
    → g < end_of id.0 new
end_above id now old new g writes less = let end = end_known id now old new writes in omega (arith, end)
