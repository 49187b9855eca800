-- What a host's kernel stands for reads the same behind events that are nothing to it.
use Rattle.std.proofs.Common.{◌≡◌, ℕ, ◌<◌, ◌≤◌, ◌&&◌, not, Bool, true, false, List, [], ◌∷◌, ◌++◌, append_assoc, refl, ap, sym, ◌∙◌, subst, arith, inl, inr}
use Rattle.std.proofs.lemmas.Bool.{cases_lt}
use Rattle.vm_model.specs.declared.event.Event.{Event}
use Rattle.vm_model.specs.declared.script.Header.{Header}
use Rattle.vm_model.specs.Named.{named}
use Rattle.vm_model.specs.Regions.{Region, backing_of, next_region, region_of}
use Rattle.vm_model.specs.Rows.{AllRows, rows_map}
use Rattle.vm_model.specs.Tasks.{entries_of, has_entry}
use Rattle.vm_model.specs.Waiting.{copy_target, fills, waiting}
use Rattle.vm_legal.specs.Homes.{is_open}
use Rattle.vm_legal.specs.Living.{lives_on, tasks}
use Rattle.vm_legal.specs.Outside.{Outside}
use Rattle.vm_legal.specs.Stretches.{EachIn}
use Rattle.vm_legal.specs.Used.{in_use}
use Rattle.vm_legal.specs.Walks.{Below}
use Rattle.vm_abroad.specs.Same.{SameFacts, SameForHost, SamePages, SameTask}
use Rattle.vm_abroad.specs.Sound.{IsAbroad, IsAmong, IsHeldOn, IsMade, IsRegionOf, Knows, Sound}
use Rattle.vm_abroad.proofs.Chains.{below_was}
use Rattle.vm_abroad.proofs.Home.{home_abroad, home_on}
use Rattle.vm_abroad.proofs.Pages.{pages_abroad}
use Rattle.vm_abroad.proofs.Regions.{backing_abroad, copies_abroad, newest_abroad, region_abroad, sizes_abroad, used_abroad}
use Rattle.vm_abroad.proofs.Sounds.{objects_rise, regions_rise, sound_next, use_of}
use Rattle.vm_abroad.proofs.Tasks.{lives_abroad, more_tasks, task_abroad}

-- it reads the same behind each such event

pub same_one : (header : Header) (outside : Outside) (h : ℕ) (e : Event) (past : List Event) → Sound header past → Knows header h past
    → IsAbroad header outside h e past → SameFacts header h past (e ∷ past)
same_one header outside h e past sound knows abroad = record {
  pages = pages_abroad header h e past abroad.foreign;
  lives = lives_abroad header h e past abroad.foreign;
  task = task_abroad header h e past abroad.foreign;
  made = more_tasks e past;
  regions = regions_rise header e past;
  objects = objects_rise header e past;
  used = used_abroad header outside h e past sound knows abroad;
  region = region_abroad header outside h e past sound abroad;
  home = λ o own temporary. home_on h o e past (own temporary);
  backing = backing_abroad header outside h e past sound abroad;
  sizes = sizes_abroad header outside h e past abroad;
  files = λ r. home_abroad header h r e past abroad.foreign;
  newest = newest_abroad header outside h e past sound abroad;
  copies = copies_abroad header outside h e past abroad;
}

-- and behind several

pub same_none : (header : Header) (h : ℕ) (past : List Event) → SameFacts header h past past
same_none header h past = record {
  pages =
      record {
        local = λ place. refl;
        live = λ o. refl;
        last = λ o. refl;
        ready = λ o. refl;
        cached = λ o. refl;
        held = refl;
        wired = refl;
        out = refl;
        pushed = λ o page. refl;
      };
  lives = λ task. refl;
  task = λ task own. record { host = refl; entries = refl; waiting = refl; next = refl; begun = refl; target = refl };
  made = record { made = []; is = refl };
  regions = omega arith;
  objects = omega arith;
  used = λ r temporary. refl;
  region = λ r small own. refl;
  home = λ o own. own;
  backing = λ o small own. refl;
  sizes = λ o small. refl;
  files = λ r. refl;
  newest = λ file on. refl;
  copies = λ o small. refl;
}

more_pages : (header : Header) (h : ℕ) (old mid new : List Event) → SamePages header h old mid → SamePages header h mid new → SamePages header h old new
more_pages header h old mid new one two = record {
  local = λ place. two.local place ∙ one.local place;
  live = λ o. two.live o ∙ one.live o;
  last = λ o. two.last o ∙ one.last o;
  ready = λ o. two.ready o ∙ one.ready o;
  cached = λ o. two.cached o ∙ one.cached o;
  held = two.held ∙ one.held;
  wired = two.wired ∙ one.wired;
  out = two.out ∙ one.out;
  pushed = λ o page. two.pushed o page ∙ one.pushed o page;
}

more_task : (size task : ℕ) (old mid new : List Event) → SameTask size task old mid → SameTask size task mid new → SameTask size task old new
more_task size task old mid new one two = record {
  host = two.host ∙ one.host;
  entries = two.entries ∙ one.entries;
  waiting = two.waiting ∙ one.waiting;
  next = two.next ∙ one.next;
  begun = two.begun ∙ one.begun;
  target = two.target ∙ one.target;
}

pub region_of_host : (header : Header) (h r : ℕ) (old new : List Event) → SameFacts header h old new → IsRegionOf header h r old → IsRegionOf header h r new
region_of_host header h r old new same own temporary = same.used r temporary ∙ own temporary

pub same_more : (header : Header) (h : ℕ) (old mid new : List Event) → SameFacts header h old mid → SameFacts header h mid new → SameFacts header h old new
same_more header h old mid new one two = record {
  pages = more_pages header h old mid new one.pages two.pages;
  lives = λ task. two.lives task ∙ one.lives task;
  task = λ task own. more_task header.size task old mid new (one.task task own) (two.task task (one.lives task ∙ own));
  made =
      record {
        made = two.made.made ++ one.made.made;
        is = two.made.is
            ∙ (ap (λ z. two.made.made ++ z) one.made.is ∙ sym (append_assoc two.made.made one.made.made (tasks old)));
      };
  regions = let first = one.regions in let second = two.regions in omega (arith, first, second);
  objects = let first = one.objects in let second = two.objects in omega (arith, first, second);
  used = λ r temporary. two.used r temporary ∙ one.used r temporary;
  region =
      λ r small own. two.region r (let first = one.regions in omega (arith, first, small)) (region_of_host header h r old mid one own) ∙ one.region r small own;
  home = λ o own. two.home o (one.home o own);
  backing = λ o small own. two.backing o (let first = one.objects in omega (arith, first, small)) (one.home o own) ∙ one.backing o small own;
  sizes = λ o small. two.sizes o (let first = one.objects in omega (arith, first, small)) ∙ one.sizes o small;
  files = λ r. two.files r ∙ one.files r;
  newest = λ file on. two.newest file (one.files file ∙ on) ∙ one.newest file on;
  copies = λ o small. two.copies o (let first = one.objects in omega (arith, first, small)) ∙ one.copies o small;
}

-- a host's tables say as much as before

among_more : (n : ℕ) (more ns : List ℕ) → IsAmong n ns → IsAmong n (more ++ ns)
among_more n [] ns is = is
among_more n (m ∷ more) ns is = inr (among_more n more ns is)

pub small_region : (header : Header) (h r : ℕ) (past : List Event) → Sound header past → IsRegionOf header h r past → r < next_region header past
small_region header h r past sound own = elim (cases_lt r (named header)) [
  | inl declared ↦ let more = sound.named_regions in omega (arith, declared, more)
  | inr temporary ↦ sound.made h r temporary (use_of header h r past (own temporary))
]

held_same : (header : Header) (h r : ℕ) (old new : List Event) → SameFacts header h old new → IsHeldOn header h r old → IsHeldOn header h r new
held_same header h r old new same held =
    let it = same.task held.task held.lives in
    record {
      task = held.task;
      lives = same.lives held.task ∙ held.lives;
      made = subst (IsAmong held.task) (sym same.made.is) (among_more held.task same.made.made (tasks old) held.made);
      holds = elim (held.holds) [
        | inl entry ↦ inl (ap (has_entry r) it.entries ∙ entry)
        | inr filled ↦ inr (ap (λ z. fills r z (copy_target held.task new)) it.waiting ∙ (ap (λ z. fills r (waiting held.task old) z) it.target ∙ filled))
      ];
    }

chain_same : (header : Header) (h r : ℕ) (old new : List Event) → Sound header old → SameFacts header h old new → Knows header h old → IsRegionOf header h r new
    → IsMade header h (region_of header r new).top new
chain_same header h r old new sound same knows own n u below =
    let was : IsRegionOf header h r old = λ temporary. sym (same.used r temporary) ∙ own temporary in
    let small = small_region header h r old sound was in
    let made : IsMade header h (region_of header r old).top old = knows.chains r small was in
    let top : Below (λ k. backing_of header k new) n (region_of header r old).top u = subst (λ (z : Region). Below (λ k. backing_of header k new) n z.top u)
    (same.region r small was) below in
    let was = made n u (below_was header h old new same.backing n (region_of header r old).top u made top) in
    let less = was.0 in
    let rise = same.objects in
    (omega (arith, less, rise), same.home u was.1)

pub knows_same : (header : Header) (h : ℕ) (old new : List Event) → Sound header old → SameFacts header h old new → Knows header h old → Knows header h new
knows_same header h old new sound same knows = record {
  held = λ r temporary used. held_same header h r old new same (knows.held r temporary (sym (same.used r temporary) ∙ used));
  entries = λ task lives.
      let own : lives_on h task old ≡ true = sym (same.lives task) ∙ lives in
      subst (AllRows (λ row. IsRegionOf header h row.region.0 new)) (sym (same.task task own).entries)
      (rows_map (λ row. IsRegionOf header h row.region.0 old) (λ row. IsRegionOf header h row.region.0 new)
      (λ row is. region_of_host header h row.region.0 old new same is) (entries_of header.size task old) (knows.entries task own));
  chains = λ r small own. chain_same header h r old new sound same knows own;
}

pub stays : (header : Header) (outside : Outside) (h : ℕ) (events past : List Event) → Sound header past → Knows header h past
    → EachIn (IsAbroad header outside h) events past → SameForHost header h past (events ++ past)
stays header outside h [] past sound knows abroad = record { same = same_none header h past; sound = sound; knows = knows }
stays header outside h (e ∷ events) past sound knows abroad =
    let was = stays header outside h events past sound knows abroad.1 in
    let one = same_one header outside h e (events ++ past) was.sound was.knows abroad.0 in
    record {
      same = same_more header h past (events ++ past) (e ∷ (events ++ past)) was.same one;
      sound = sound_next header outside e (events ++ past) was.sound abroad.0.cause abroad.0.enters;
      knows = knows_same header h (events ++ past) (e ∷ (events ++ past)) was.sound one was.knows;
    }

-- where no region was made just now, what is used is in use

pub use_same : (header : Header) (h r : ℕ) (old new : List Event) → SameFacts header h old new → named header ≤ r → is_open r old ≡ false
    → is_open r new ≡ false → in_use header h r new ≡ in_use header h r old
use_same header h r old new same temporary was now =
    plain (in_use header h r new) (is_open r new) now ∙ (same.used r temporary ∙ sym (plain (in_use header h r old) (is_open r old) was))
  where
    plain : (a b : Bool) → b ≡ false → a ≡ (a && not b)
    plain true b is = rw is refl
    plain false b is = refl
