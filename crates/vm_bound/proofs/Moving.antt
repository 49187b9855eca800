-- What holds inside a step of a settle in which some may wait, holds behind each event that follows.
use Rattle.std.proofs.Common.{ℕ, ◌≡◌, ◌≤◌, ◌<◌, ◌==◌, ◌&&◌, ◌||◌, ◌∙◌, ◌⊎◌, not, Bool, true, false, List, ◌∷◌, Option, Some, None}
use Rattle.std.proofs.Common.{inl, inr, ap, arith, refl, subst, sym, if◌then◌else◌}
use Rattle.std.proofs.lemmas.Bool.{cases_lt}
use Rattle.std.proofs.lemmas.Bool.Decides.{nat_tests}
use Rattle.vm_abroad.specs.Sound.{Sound}
use Rattle.vm_base.specs.Entries.{entered, entry_at}
use Rattle.vm_base.specs.declared.entry.Entry.{Entry}
use Rattle.vm_base.specs.declared.ids.HostId.{HostId}
use Rattle.vm_base.specs.declared.ids.Inherit.{Inherit}
use Rattle.vm_base.specs.declared.ids.ObjectId.{ObjectId}
use Rattle.vm_base.specs.declared.ids.ObjectKind.{ObjectKind}
use Rattle.vm_base.specs.declared.ids.ObjectKind.TheVariants.{Temp, File, Shared, Wild}
use Rattle.vm_base.specs.declared.ids.PageNo.{PageNo}
use Rattle.vm_base.specs.declared.ids.Prot.{Prot}
use Rattle.vm_base.specs.declared.ids.RegionId.{RegionId}
use Rattle.vm_base.specs.declared.ids.TaskId.{TaskId}
use Rattle.vm_bound.proofs.Controls.{none_lives_elsewhere}
use Rattle.vm_bound.proofs.EntryRows.{among_entered, or_right}
use Rattle.vm_bound.proofs.Going.{Going, is_copy_over, is_left}
use Rattle.vm_bound.proofs.Grown.{Grown, IsNew, before, clash, not_new, sound_grown}
use Rattle.vm_bound.proofs.Leads.{Led, StillLed, entered_led, failed_led, merged_led, shadowed_led}
use Rattle.vm_bound.proofs.Paying.{CreatesNone, frees, frees_on}
use Rattle.vm_bound.proofs.Reached.{below_bare}
use Rattle.vm_bound.specs.Bound.{NoneWaitsOnWild}
use Rattle.vm_bound.specs.Letters.{host_count}
use Rattle.vm_bound.specs.Settles.{HasEnded, MayCome, OpensNone}
use Rattle.vm_legal.specs.Accesses.{HasPageLeft, Waits, is_ready}
use Rattle.vm_legal.specs.Cached.{is_cached}
use Rattle.vm_flat.proofs.Heads.{Orderly}
use Rattle.vm_legal.specs.Homes.{EntersNext}
use Rattle.vm_legal.specs.Licences.{Enters, Fails, IsBehind, IsOwed, Licensed, MaySendUp, Owed, PagerSends, ReturnOn, entry_of, owed}
use Rattle.vm_legal.specs.Merges.{Merges}
use Rattle.vm_legal.specs.Living.{lives_on}
use Rattle.vm_legal.specs.Outside.{Outside, kind_of}
use Rattle.vm_legal.specs.Steps.{Letter, ends_control, since, taken_letter}
use Rattle.vm_legal.specs.Stretches.{IsInner}
use Rattle.vm_legal.specs.Swept.{IsUnheld}
use Rattle.vm_legal.specs.Used.{in_use}
use Rattle.vm_legal.specs.Walks.{Below, Reach}
use Rattle.vm_model.proofs.Ports.{at_place}
use Rattle.vm_model.specs.Controls.{is_control, live_control, without_control}
use Rattle.vm_model.specs.Local.{is_on}
use Rattle.vm_model.specs.Named.{named}
use Rattle.vm_model.specs.Regions.{Backing, backing_of, next_object, region_of}
use Rattle.vm_model.specs.Tasks.{entries_of, has_entry, host_of}
use Rattle.vm_model.specs.Waiting.{Access, Copying, Loading, Storing, Target, address_of, copy_target, next_page, waiting}
use Rattle.vm_model.specs.declared.command.Command.TheVariants as command
use Rattle.vm_model.specs.declared.event.Event.{Event}
use Rattle.vm_model.specs.declared.event.Event.TheVariants as event
use Rattle.vm_model.specs.declared.message.Channel.{Channel}
use Rattle.vm_model.specs.declared.message.Channel.TheVariants.{Up, Down}
use Rattle.vm_model.specs.declared.message.Message.{Message}
use Rattle.vm_model.specs.declared.message.Message.TheVariants as message
use Rattle.vm_model.specs.declared.script.Header.{Header}

-- what an event of a step leaves

pub record Step (header : Header) (now past : List Event) : Type 0 where
  led : (h r o : ℕ) → named header ≤ r → Led header h r o past → StillLed header h r o now
  unowed : (channel : Channel) → owed now ≡ Some (ReturnOn channel) → ⊥
  lives : (h o : ℕ) → live_control h o past ≡ None → live_control h o now ≡ None
  left : (h o : ℕ) → is_left h o past ≡ true → is_left h o now ≡ true
  on : (h task : ℕ) → lives_on h task now ≡ lives_on h task past
  rows : (task o : ℕ) → has_entry o (entries_of header.size task now) ≡ false → has_entry o (entries_of header.size task past) ≡ false
  cached : (h o : ℕ) → is_cached h o now ≡ false → (is_cached h o past ≡ false) ⊎ (live_control h o now ≡ None)
  letter : taken_letter now ≡ taken_letter past
  ends : (h o : ℕ) → since (ends_control h o) now ≡ true → (since (ends_control h o) past ≡ true) ⊎ (live_control h o now ≡ None)

-- what is not refuted holds, where it can be tested
stable : (live : Option ℕ) (left : Bool) → (((live ≡ None) ⊎ (left ≡ true) → ⊥) → ⊥) → (live ≡ None) ⊎ (left ≡ true)
stable None left told = inl refl
stable (Some control) true told = inr refl
stable (Some control) false told = absurd (told neither)
  where
    neither : (Some control ≡ None) ⊎ (false ≡ true) → ⊥
    neither (inl is) = cc
    neither (inr is) = cc

-- a temporary object is in the chain of temporary regions alone
late_region : (header : Header) (r n o : ℕ) (past : List Event) → Sound header past → Below (λ k. backing_of header k past) n (region_of header r past).top o
    → named header ≤ o → named header ≤ r
late_region header r n o past sound below late = elim (cases_lt r (named header)) [
  | inl declared ↦
      let top : (region_of header r past).top ≡ r = sound.tops r declared in
      let bare : (backing_of header (region_of header r past).top past).backed ≡ false = ap (λ k. (backing_of header k past).backed) top
      ∙ sound.bare r declared in
      let same : (region_of header r past).top ≡ o = below_bare (λ k. backing_of header k past) n (region_of header r past).top o
      (λ on. clash (backing_of header (region_of header r past).top past).backed bare on) below in
      absurd (omega (arith, top, same, declared, late))
  | inr temporary ↦ temporary
]

going_step : (header : Header) (outside : Outside) (now past : List Event) → Grown header outside now → Grown header outside past → Step header now past
    → NoneWaitsOnWild header now
    → Going header past → Going header now
going_step header outside now past grown was step tame going =
    record {
      tame = tame;
      unowed = step.unowed;
      orphans = orphans;
      unheld = unheld;
      ended = ended;
    }
  where
    carry : (h o : ℕ) → (live_control h o past ≡ None) ⊎ (is_left h o past ≡ true) → (live_control h o now ≡ None) ⊎ (is_left h o now ≡ true)
    carry h o (inl none) = inl (step.lives h o none)
    carry h o (inr left) = inr (step.left h o left)

    orphans : (h o : ℕ) → named header ≤ o → (Reach header h o now → ⊥) → (live_control h o now ≡ None) ⊎ (is_left h o now ≡ true)
    orphans h o late unreached =
        stable (live_control h o now) (is_left h o now) (λ told. told (carry h o (going.orphans h o late (λ reach. gone told reach.0
        (step.led h reach.0 o (late_region header reach.0 reach.1 o past (sound_grown header outside past was) reach.3 late)
        (record { used_still = reach.2; depth = reach.1; below = reach.3 }))))))
      where
        gone : ((live_control h o now ≡ None) ⊎ (is_left h o now ≡ true) → ⊥) → (r : ℕ) → StillLed header h r o now → ⊥
        gone told r (inl led) = unreached (r, led.depth, led.used_still, led.below)
        gone told r (inr it) = told it.why

    unheld : (h o : ℕ) → o < named header → IsUnheld header h o now → frees h o (taken_letter now) ≡ false → live_control h o now ≡ None
    unheld h o declared held none = by (step.cached h o held.uncached)
      where
        nowhere : (r : ℕ) → StillLed header h r o now → named header ≤ r → ⊥
        nowhere r (inl led) late = held.unreached r led.depth late led.used_still led.below
        nowhere r (inr it) late = let above = it.temporary in omega (arith, above, declared)

        by : (is_cached h o past ≡ false) ⊎ (live_control h o now ≡ None) → live_control h o now ≡ None
        by (inr none) = none
        by (inl uncached) =
            step.lives h o (going.unheld h o declared (record {
              unmapped = λ task lives. step.rows task o (held.unmapped task (step.on h task ∙ lives));
              uncached = uncached;
              unreached =
                  λ r depth late used below. nowhere r (step.led h r o late (record { used_still = used; depth = depth; below = below })) late;
            }) (sym (ap (λ (x : Option Letter). frees h o x) step.letter) ∙ none))

    ended : (h o : ℕ) → since (ends_control h o) now ≡ true → live_control h o now ≡ None
    ended h o is = by (step.ends h o is)
      where
        by : (since (ends_control h o) past ≡ true) ⊎ (live_control h o now ≡ None) → live_control h o now ≡ None
        by (inl earlier) = step.lives h o (going.ended h o earlier)
        by (inr none) = none

-- behind an event that changes nothing of how memory lies, and ends no control

-- which regions are in use, what stands on what, and who has which entries
record Layout : Type 0 where
  used : ℕ → ℕ → Bool
  tops : ℕ → ℕ
  backings : ℕ → Backing
  entries : ℕ → List Entry
  hosts : ℕ → Option ℕ

abbrev layout : Header → List Event → Layout
layout header past =
    record {
      used = λ h r. in_use header h r past;
      tops = λ r. (region_of header r past).top;
      backings = λ o. backing_of header o past;
      entries = λ task. entries_of header.size task past;
      hosts = λ task. host_of task past;
    }

record Plain (header : Header) (now past : List Event) : Type 0 where
  lies : layout header now ≡ layout header past
  unowed : (channel : Channel) → owed now ≡ Some (ReturnOn channel) → ⊥
  lives : (h o : ℕ) → live_control h o now ≡ live_control h o past
  left : (h o : ℕ) → is_left h o now ≡ is_left h o past
  cached : (h o : ℕ) → is_cached h o now ≡ is_cached h o past
  letter : taken_letter now ≡ taken_letter past
  ends : (h o : ℕ) → since (ends_control h o) now ≡ since (ends_control h o) past

led_still : (header : Header) (h r o : ℕ) (now past : List Event) → layout header now ≡ layout header past → Led header h r o past → Led header h r o now
led_still header h r o now past same led =
    record {
      used_still = ap (λ (l : Layout). l.used h r) same ∙ led.used_still;
      depth = led.depth;
      below = subst (λ (l : Layout). Below l.backings led.depth (l.tops r) o) (sym same) led.below;
    }

step_plain : (header : Header) (now past : List Event) → Plain header now past → Step header now past
step_plain header now past plain =
    record {
      led = λ h r o late led. inl (led_still header h r o now past plain.lies led);
      unowed = plain.unowed;
      lives = λ h o none. plain.lives h o ∙ none;
      left = λ h o is. plain.left h o ∙ is;
      on = λ h task. ap (λ (l : Layout). is_on h (l.hosts task)) plain.lies;
      rows = λ task o none. ap (λ (l : Layout). has_entry o (l.entries task)) (sym plain.lies) ∙ none;
      cached = λ h o none. inl (sym (plain.cached h o) ∙ none);
      letter = plain.letter;
      ends = λ h o is. inl (sym (plain.ends h o) ∙ is);
    }

-- whoever waits behind the end of an access waited before
waited : (b : Bool) (was : Option Access) (access : Access) → (if b then None else was) ≡ Some access → was ≡ Some access
waited true was access is = absurd (let bad : ◌≡◌ {A = Option Access} None (Some access) = is in cc)
waited false was access is = is

pub no_return : (channel : Channel) → ◌≡◌ {A = Option Owed} None (Some (ReturnOn channel)) → ⊥
no_return channel is = cc

-- what is owed behind a slow copy is an entry
pub no_copy_return : (task : TaskId) (x : Option Access) (y : Option Target) (channel : Channel) → entry_of task x y ≡ Some (ReturnOn channel) → ⊥
no_copy_return task None y channel is = no_return channel is
no_copy_return task (Some (Loading address bytes)) y channel is = no_return channel is
no_copy_return task (Some (Storing address bytes value)) y channel is = no_return channel is
no_copy_return task (Some (Copying address bytes to)) None channel is = no_return channel is
no_copy_return task (Some (Copying address bytes to)) (Some target) channel is = let bad = is in cc

ends_none : (a b c : Bool) → ((a && (b && false)) || c) ≡ c
ends_none true true c = refl
ends_none true false c = refl
ends_none false b c = refl

-- a message that begins and ends no control
abbrev IsMere : Message → Type 0
IsMere (message.Init control size) = ⊥
IsMere (message.Create control size) = ⊥
IsMere (message.Terminate control) = ⊥
IsMere other = Unit {0}

plain_up : (header : Header) (host : HostId) (object : ObjectId) (m : Message) (past : List Event) → IsMere m
    → Plain header (event.Sent (Up host object) m ∷ past) past
plain_up header host object (message.Init control size) past mere = absurd mere
plain_up header host object (message.Create control size) past mere = absurd mere
plain_up header host object (message.Terminate control) past mere = absurd mere
plain_up header host object m past mere =
    record {
      lies = refl;
      unowed = no_return;
      lives = λ h o. refl;
      left = λ h o. refl;
      cached = λ h o. refl;
      letter = refl;
      ends = λ h o. ends_none (host.0 == h) (object.0 == o) (since (ends_control h o) past);
    }

plain_down : (header : Header) (host : HostId) (object : ObjectId) (n : ℕ) (m : Message) (past : List Event)
    → owed (event.Sent (Down host object n) m ∷ past) ≡ None → Plain header (event.Sent (Down host object n) m ∷ past) past
plain_down header host object n m past unowed =
    record {
      lies = refl;
      unowed = λ channel is. no_return channel (sym unowed ∙ is);
      lives = λ h o. refl;
      left = λ h o. refl;
      cached = λ h o. refl;
      letter = refl;
      ends = λ h o. refl;
    }

-- an access ends, pages come and go, a mark goes, or a backing fails
abbrev IsSilent : Event → Type 0
IsSilent (event.Loaded task object page value) = Unit {0}
IsSilent (event.Stored task object page at bytes value) = Unit {0}
IsSilent (event.CopiedPage task page object object_page target) = Unit {0}
IsSilent (event.CopyEnded task) = Unit {0}
IsSilent (event.Unmarked region) = Unit {0}
IsSilent (event.Dropped host object page) = Unit {0}
IsSilent (event.Zeroed host object page) = Unit {0}
IsSilent (event.Raised host lower lower_page upper upper_page) = Unit {0}
IsSilent (event.DeviceFailed who way object page) = Unit {0}
IsSilent (event.NoSlot object page) = Unit {0}
IsSilent other = ⊥

plain_silent : (header : Header) (e : Event) (past : List Event) → IsSilent e → Plain header (e ∷ past) past
plain_silent header (event.Loaded owner object page value) past silent = record {
  lies = refl;
  unowed = no_return;
  lives = λ h o. refl;
  left = λ h o. refl;
  cached = λ h o. refl;
  letter = refl;
  ends = λ h o. refl;
}
plain_silent header (event.Stored owner object page at bytes value) past silent = record {
  lies = refl;
  unowed = no_return;
  lives = λ h o. refl;
  left = λ h o. refl;
  cached = λ h o. refl;
  letter = refl;
  ends = λ h o. refl;
}
plain_silent header (event.CopyEnded owner) past silent = record {
  lies = refl;
  unowed = no_copy_return owner (waiting owner.0 past) (copy_target owner.0 past);
  lives = λ h o. refl;
  left = λ h o. refl;
  cached = λ h o. refl;
  letter = refl;
  ends = λ h o. refl;
}
plain_silent header (event.CopiedPage owner page object object_page target) past silent = record {
  lies = refl;
  unowed = no_return;
  lives = λ h o. refl;
  left = λ h o. refl;
  cached = λ h o. refl;
  letter = refl;
  ends = λ h o. refl;
}
plain_silent header (event.Unmarked region) past silent = record {
  lies = refl;
  unowed = no_return;
  lives = λ h o. refl;
  left = λ h o. refl;
  cached = λ h o. refl;
  letter = refl;
  ends = λ h o. refl;
}
plain_silent header (event.Dropped host object page) past silent = record {
  lies = refl;
  unowed = no_return;
  lives = λ h o. refl;
  left = λ h o. refl;
  cached = λ h o. refl;
  letter = refl;
  ends = λ h o. refl;
}
plain_silent header (event.Zeroed host object page) past silent = record {
  lies = refl;
  unowed = no_return;
  lives = λ h o. refl;
  left = λ h o. refl;
  cached = λ h o. refl;
  letter = refl;
  ends = λ h o. refl;
}
plain_silent header (event.Raised host lower lower_page upper upper_page) past silent = record {
  lies = refl;
  unowed = no_return;
  lives = λ h o. refl;
  left = λ h o. refl;
  cached = λ h o. refl;
  letter = refl;
  ends = λ h o. refl;
}
plain_silent header (event.DeviceFailed who way object page) past silent = record {
  lies = refl;
  unowed = no_return;
  lives = λ h o. refl;
  left = λ h o. refl;
  cached = λ h o. refl;
  letter = refl;
  ends = λ h o. refl;
}
plain_silent header (event.NoSlot object page) past silent = record {
  lies = refl;
  unowed = no_return;
  lives = λ h o. refl;
  left = λ h o. refl;
  cached = λ h o. refl;
  letter = refl;
  ends = λ h o. refl;
}
plain_silent header other past silent = absurd silent

-- behind the others

rows_more : (b : Bool) (row : Entry) (rows : List Entry) (o : ℕ) → has_entry o (if b then entered row rows else rows) ≡ false → has_entry o rows ≡ false
rows_more false row rows o none = none
rows_more true row rows o none = by (has_entry o rows) refl
  where
    by : (c : Bool) → has_entry o rows ≡ c → c ≡ false
    by false is = refl
    by true is = clash (has_entry o (entered row rows)) none (among_entered o row rows (or_right (row.region.0 == o) (has_entry o rows) is))

rows_apart : (b : Bool) (owner task : ℕ) (some : List Entry) (size : ℕ) (access : Access) (past : List Event) → (owner == task) ≡ b → waiting owner past ≡ None
    → waiting task past ≡ Some access → (if b then some else entries_of size task past) ≡ entries_of size task past
rows_apart false owner task some size access past same idle waits = refl
rows_apart true owner task some size access past same idle waits =
    let it : owner ≡ task = grind (arith, nat_tests) in
    let none : waiting task past ≡ None = ap (λ (k : ℕ). waiting k past) (sym it) ∙ idle in
    absurd (let bad : ◌≡◌ {A = Option Access} None (Some access) = sym none ∙ waits in cc)

step_entered : (header : Header) (outside : Outside) (task : TaskId) (address bytes : ℕ) (region : RegionId) (offset : ℕ) (prot : Prot) (inherit : Inherit)
    (past : List Event) → Grown header outside past → Enters header task.0 bytes region.0 offset past
    → IsOwed (event.Entered task address bytes region offset prot inherit) past
    → Step header (event.Entered task address bytes region offset prot inherit ∷ past) past
step_entered header outside owner address bytes region offset prot inherit past grown c owes =
    record {
      led = λ h r o late led. inl (entered_led header outside h r o owner address bytes region offset prot inherit past grown c owes late led);
      unowed = no_return;
      lives = λ h o none. none;
      left = λ h o is. is;
      on = λ h task. refl;
      rows = λ task o none. rows_more (owner.0 == task) row (entries_of header.size task past) o none;
      cached = λ h o none. inl none;
      letter = refl;
      ends = λ h o is. inl is;
    }
  where
    row : Entry
    row = record { address = address; bytes = bytes; region = region; offset = offset; prot = prot; inherit = inherit }

step_failed : (header : Header) (outside : Outside) (task : TaskId) (object : ObjectId) (page : PageNo) (past : List Event) → Grown header outside past
    → EntersNext (event.Failed task object page) past → Orderly (event.Failed task object page) past → IsBehind (event.Failed task object page) past
    → Fails header task.0 object.0 page.0 past → Step header (event.Failed task object page ∷ past) past
step_failed header outside owner object page past grown next order stands c =
    record {
      led = λ h r o late led. failed_led header outside h r o owner object page past grown next order stands c late led;
      unowed = no_return;
      lives = λ h o none. none;
      left = λ h o is. or_right (lives_on h owner.0 past && is_copy_over o (waiting owner.0 past) (copy_target owner.0 past)) (is_left h o past) is;
      on = λ h task. refl;
      rows = λ task o none. none;
      cached = λ h o none. inl none;
      letter = refl;
      ends = λ h o is. inl is;
    }

step_shadowed : (header : Header) (outside : Outside) (region : RegionId) (new old : ObjectId) (past : List Event) → Grown header outside past
    → new.0 ≡ next_object header past → Step header (event.Shadowed region new old ∷ past) past
step_shadowed header outside region new old past grown number =
    record {
      led = λ h r o late led. inl (shadowed_led header outside h r o region new old past grown number led);
      unowed = no_return;
      lives = λ h o none. none;
      left = λ h o is. is;
      on = λ h task. refl;
      rows = λ task o none. none;
      cached = λ h o none. inl none;
      letter = refl;
      ends = λ h o is. inl is;
    }

step_merged : (header : Header) (outside : Outside) (upper lower : ObjectId) (past : List Event) → Grown header outside past → ((r : ℕ) → IsNew r past → ⊥)
    → Merges header upper.0 lower.0 past → Step header (event.Merged upper lower ∷ past) past
step_merged header outside upper lower past grown shut merges =
    record {
      led = λ h r o late led. merged_led header outside h r o upper lower past grown shut merges late led;
      unowed = no_return;
      lives = λ h o none. none;
      left = λ h o is. is;
      on = λ h task. refl;
      rows = λ task o none. none;
      cached = λ h o none. inl none;
      letter = refl;
      ends = λ h o is. inl is;
    }

-- behind the end of a control

without_itself : (control : ℕ) (live : Option ℕ) → live ≡ Some control → without_control control live ≡ None
without_itself control live is = subst (λ (x : Option ℕ). without_control control x ≡ None) (sym is) (by (control == control) same)
  where
    same : (control == control) ≡ true
    same = grind (arith, nat_tests)

    by : (b : Bool) → b ≡ true → (if b then None else Some control) ≡ None
    by true is = refl
    by false is = absurd (let bad : false ≡ true = is in cc)

none_stays : (control : ℕ) (b : Bool) (live : Option ℕ) → live ≡ None → (if b then without_control control live else live) ≡ None
none_stays control false live is = is
none_stays control true live is = subst (λ (x : Option ℕ). without_control control x ≡ None) (sym is) refl

ends_or : (a b c : Bool) → ((a && (b && true)) || c) ≡ true → ((a && b) ≡ true) ⊎ (c ≡ true)
ends_or true true c is = inl refl
ends_or true false c is = inr is
ends_or false b c is = inr is

step_end : (header : Header) (host : HostId) (object : ObjectId) (control : ℕ) (past : List Event) → live_control host.0 object.0 past ≡ Some control
    → Step header (event.Sent (Up host object) (message.Terminate control) ∷ past) past
step_end header host object control past live =
    record {
      led = λ h r o late led. inl (record { used_still = led.used_still; depth = led.depth; below = led.below });
      unowed = no_return;
      lives = λ h o none. none_stays control (host.0 == h && object.0 == o) (live_control h o past) none;
      left = λ h o is. is;
      on = λ h task. refl;
      rows = λ task o none. none;
      cached = λ h o none. by h o (host.0 == h && object.0 == o) refl none;
      letter = refl;
      ends = ends;
    }
  where
    now : List Event
    now = event.Sent (Up host object) (message.Terminate control) ∷ past

    gone : (h o : ℕ) (b : Bool) → (host.0 == h && object.0 == o) ≡ b → b ≡ true
        → (if b then without_control control (live_control h o past) else live_control h o past) ≡ None
    gone h o true same is =
        without_itself control (live_control h o past) (at_place (λ x y. live_control x y past ≡ Some control) host.0 object.0 h o same live)
    gone h o false same is = absurd (let bad : false ≡ true = is in cc)

    by : (h o : ℕ) (b : Bool) → (host.0 == h && object.0 == o) ≡ b → (if b then false else is_cached h o past) ≡ false
        → (is_cached h o past ≡ false) ⊎ ((if b then without_control control (live_control h o past) else live_control h o past) ≡ None)
    by h o true same uncached = inr (gone h o true same refl)
    by h o false same uncached = inl uncached

    ends : (h o : ℕ) → since (ends_control h o) now ≡ true → (since (ends_control h o) past ≡ true) ⊎ (live_control h o now ≡ None)
    ends h o is = elim (ends_or (host.0 == h) (object.0 == o) (since (ends_control h o) past) is) [
      | inl here ↦ inr (gone h o (host.0 == h && object.0 == o) refl here)
      | inr earlier ↦ inl earlier
    ]

-- a pager makes no control
no_create_down : (header : Header) (outside : Outside) (kind : ObjectKind) (count host object n control size : ℕ) (past : List Event)
    → PagerSends kind header outside (command.Settle count) host object n (message.Create control size) past → ⊥
no_create_down header outside Temp count host object n control size past cause = cause
no_create_down header outside File count host object n control size past cause = cause
no_create_down header outside Shared count host object n control size past cause = cause
no_create_down header outside Wild count host object n control size past cause = cause

pub unowed_down : (header : Header) (outside : Outside) (count : ℕ) (host : HostId) (object : ObjectId) (n : ℕ) (m : Message) (past : List Event)
    → PagerSends (kind_of header object.0) header outside (command.Settle count) host.0 object.0 n m past
    → owed (event.Sent (Down host object n) m ∷ past) ≡ None
unowed_down header outside count host object n (message.Create control size) past cause =
    absurd (no_create_down header outside (kind_of header object.0) count host.0 object.0 n control size past cause)
unowed_down header outside count host object n m past cause = refl

step_up : (header : Header) (count : ℕ) (host : HostId) (object : ObjectId) (m : Message) (past : List Event)
    → MaySendUp header (command.Settle count) host.0 object.0 m past → OpensNone (event.Sent (Up host object) m)
    → CreatesNone (event.Sent (Up host object) m) → Step header (event.Sent (Up host object) m ∷ past) past
step_up header count host object (message.Init control size) past cause opens creates = absurd opens
step_up header count host object (message.Create control size) past cause opens creates = absurd creates
step_up header count host object (message.Terminate control) past cause opens creates = step_end header host object control past cause.live
step_up header count host object m past cause opens creates =
    step_plain header (event.Sent (Up host object) m ∷ past) past (plain_up header host object m past tt)

-- behind each event that follows

step_next : (header : Header) (outside : Outside) (n : ℕ) (e : Event) (past : List Event) → Grown header outside (e ∷ past)
    → Licensed header outside (command.Settle n) e past → MayCome e past → CreatesNone e → IsInner e → Step header (e ∷ past) past
step_next header outside n (event.Line line) past grown licensed may creates inner = absurd inner
step_next header outside n (event.Refused code) past grown licensed may creates inner = absurd may.0
step_next header outside n (event.TaskMade task host) past grown licensed may creates inner = absurd may.0
step_next header outside n (event.TaskEnded task) past grown licensed may creates inner = absurd may.0
step_next header outside n (event.RegionMade region object pages) past grown licensed may creates inner = absurd may.0
step_next header outside n (event.RegionCopied region source offset pages) past grown licensed may creates inner = absurd may.0
step_next header outside n (event.Delayed region source offset pages copy) past grown licensed may creates inner = absurd may.0
step_next header outside n (event.Removed task address bytes) past grown licensed may creates inner = absurd may.0
step_next header outside n (event.Protected task address bytes prot) past grown licensed may creates inner = absurd may.0
step_next header outside n (event.Inherited task address bytes inherit) past grown licensed may creates inner = absurd may.0
step_next header outside n (event.BegunLoad task address size) past grown licensed may creates inner = absurd may.0
step_next header outside n (event.BegunStore task address size value) past grown licensed may creates inner = absurd may.0
step_next header outside n (event.BegunCopy task address bytes to) past grown licensed may creates inner = absurd may.0
step_next header outside n (event.Wired host count) past grown licensed may creates inner = absurd may.0
step_next header outside n (event.Taken channel m) past grown licensed may creates inner = absurd inner
step_next header outside n (event.Entered task address bytes region offset prot inherit) past grown licensed may creates inner =
    step_entered header outside task address bytes region offset prot inherit past
    (before header outside (event.Entered task address bytes region offset prot inherit) past grown) licensed.0 may.0
step_next header outside n (event.Failed task object page) past grown licensed may creates inner =
    step_failed header outside task object page past (before header outside (event.Failed task object page) past grown) grown.enters.0 grown.orderly.0
    licensed.1 licensed.0
step_next header outside n (event.Shadowed region new old) past grown licensed may creates inner =
    step_shadowed header outside region new old past (before header outside (event.Shadowed region new old) past grown) licensed.0.next
step_next header outside n (event.Merged upper lower) past grown licensed may creates inner =
    step_merged header outside upper lower past (before header outside (event.Merged upper lower) past grown)
    (λ r new. not_new r (event.Merged upper lower) past grown.enters.0 grown.orderly.0 refl new) licensed.0
step_next header outside n (event.Sent (Up host object) m) past grown licensed may creates inner =
    step_up header n host object m past licensed.0 may.1 creates
step_next header outside n (event.Sent (Down host object control) m) past grown licensed may creates inner =
    step_plain header (event.Sent (Down host object control) m ∷ past) past
    (plain_down header host object control m past (unowed_down header outside n host object control m past licensed.0))
step_next header outside n e past grown licensed may creates inner = step_plain header (e ∷ past) past (plain_silent header e past tt)

pub going_next : (header : Header) (outside : Outside) (n : ℕ) (e : Event) (past : List Event) → Grown header outside (e ∷ past)
    → Licensed header outside (command.Settle n) e past → MayCome e past → CreatesNone e → IsInner e → NoneWaitsOnWild header (e ∷ past)
    → Going header past → Going header (e ∷ past)
going_next header outside n e past grown licensed may creates inner tame going =
    going_step header outside (e ∷ past) past grown (before header outside e past grown)
    (step_next header outside n e past grown licensed may creates inner) tame going

-- where a step begins

skipped : (a b c cache was : Bool) → (a && (b && true)) ≡ false → (if a && (b && c) then cache else was) ≡ false → was ≡ false
skipped false b c cache was none is = is
skipped true false c cache was none is = is
skipped true true c cache was none is = absurd (let bad : true ≡ false = none in cc)

-- a taking by which the object may not end leaves it uncached
uncached_before : (h o : ℕ) (channel : Channel) (m : Message) (past : List Event) → frees_on h o channel m ≡ false
    → is_cached h o (event.Taken channel m ∷ past) ≡ false → is_cached h o past ≡ false
uncached_before h o (Down host object control) (message.Ready cache strategy) past none is =
    skipped (host.0 == h) (object.0 == o) (is_control control (live_control h o past) && not (is_ready h o past)) cache (is_cached h o past) none is
uncached_before h o (Down host object control) (message.Attributes cache strategy reply) past none is =
    skipped (host.0 == h) (object.0 == o) (is_control control (live_control h o past)) cache (is_cached h o past) none is
uncached_before h o channel m past none is = is

-- the event begins a step, and changes nothing but what was taken
record Begins (header : Header) (now past : List Event) : Type 0 where
  lies : layout header now ≡ layout header past
  waits : (task : ℕ) → waiting task now ≡ waiting task past
  pages : (task : ℕ) → next_page task now ≡ next_page task past
  lives : (h o : ℕ) → live_control h o now ≡ live_control h o past
  unowed : owed now ≡ None
  fresh : (test : Event → Bool) → since test now ≡ false
  cached : (h o : ℕ) → frees h o (taken_letter now) ≡ false → is_cached h o now ≡ false → is_cached h o past ≡ false

record ReachIn (used : ℕ → ℕ → Bool) (tops : ℕ → ℕ) (backings : ℕ → Backing) (h o : ℕ) : Type 0 where
  region : ℕ
  depth : ℕ
  uses : used h region ≡ true
  below : Below backings depth (tops region) o

reach_still : (header : Header) (h o : ℕ) (now past : List Event) → layout header now ≡ layout header past → Reach header h o past → Reach header h o now
reach_still header h o now past same reach =
    let was : ReachIn (layout header past).used (layout header past).tops (layout header past).backings h o = record {
      region = reach.0;
      depth = reach.1;
      uses = reach.2;
      below = reach.3;
    } in
    let is : ReachIn (layout header now).used (layout header now).tops (layout header now).backings h o = subst
    (λ (l : Layout). ReachIn l.used l.tops l.backings h o) (sym same) was in
    (is.region, is.depth, is.uses, is.below)

record UnheldIn (declared : ℕ) (l : Layout) (h o : ℕ) : Type 0 where
  unmapped : (task : ℕ) → is_on h (l.hosts task) ≡ true → has_entry o (l.entries task) ≡ false
  unreached : (region depth : ℕ) → declared ≤ region → l.used h region ≡ true → Below l.backings depth (l.tops region) o → ⊥

unheld_still : (header : Header) (h o : ℕ) (now past : List Event) → layout header now ≡ layout header past → is_cached h o past ≡ false
    → IsUnheld header h o now → IsUnheld header h o past
unheld_still header h o now past same uncached unheld =
    let there : UnheldIn (named header) (layout header now) h o = record { unmapped = unheld.unmapped; unreached = unheld.unreached } in
    let here : UnheldIn (named header) (layout header past) h o = subst (λ (l : Layout). UnheldIn (named header) l h o) same there in
    record { unmapped = here.unmapped; uncached = uncached; unreached = here.unreached }

tame_still : (header : Header) (now past : List Event) → Begins header now past → NoneWaitsOnWild header past → NoneWaitsOnWild header now
tame_still header now past begins tame task access w =
    let was : Waits header task access past = record {
      waits = sym (begins.waits task) ∙ w.waits;
      at = record {
        host = w.at.host;
        entry = w.at.entry;
        lives = ap (λ (l : Layout). l.hosts task) (sym begins.lies) ∙ w.at.lives;
        found =
            ap (λ (l : Layout). entry_at (address_of header.size (next_page task past) access) (l.entries task)) (sym begins.lies)
            ∙ ap (λ (p : ℕ). entry_at (address_of header.size p access) (entries_of header.size task now)) (sym (begins.pages task)) ∙ w.at.found;
      };
      left = subst (λ (p : ℕ). HasPageLeft header.size access p) (begins.pages task) w.left;
    } in
    tame task access was

going_begun : (header : Header) (outside : Outside) (now past : List Event) → Begins header now past → HasEnded header outside past
    → NoneWaitsOnWild header past → Going header now
going_begun header outside now past begins over tame =
    record {
      tame = tame_still header now past begins tame;
      unowed = λ channel is. no_return channel (sym begins.unowed ∙ is);
      orphans = λ h o late unreached. inl (orphans h o late unreached);
      unheld = unheld;
      ended = λ h o is. absurd (let bad : false ≡ true = sym (begins.fresh (ends_control h o)) ∙ is in cc);
    }
  where
    orphans : (h o : ℕ) → named header ≤ o → (Reach header h o now → ⊥) → live_control h o now ≡ None
    orphans h o late unreached = elim (cases_lt h (host_count header)) [
      | inl below ↦ begins.lives h o ∙ (over.prompt h below).swept.controls o late
          (λ reach. unreached (reach_still header h o now past begins.lies reach))
      | inr beyond ↦ begins.lives h o ∙ none_lives_elsewhere header h o past over.hosts beyond
    ]

    unheld : (h o : ℕ) → o < named header → IsUnheld header h o now → frees h o (taken_letter now) ≡ false → live_control h o now ≡ None
    unheld h o declared held none = elim (cases_lt h (host_count header)) [
      | inl below ↦ begins.lives h o ∙ (over.prompt h below).swept.declared_controls o declared
          (unheld_still header h o now past begins.lies (begins.cached h o none held.uncached) held)
      | inr beyond ↦ begins.lives h o ∙ none_lives_elsewhere header h o past over.hosts beyond
    ]

pub going_taken : (header : Header) (outside : Outside) (channel : Channel) (m : Message) (past : List Event) → HasEnded header outside past
    → NoneWaitsOnWild header past → Going header (event.Taken channel m ∷ past)
going_taken header outside channel m past over tame =
    going_begun header outside (event.Taken channel m ∷ past) past (record {
      lies = refl;
      waits = λ task. refl;
      pages = λ task. refl;
      lives = λ h o. refl;
      unowed = refl;
      fresh = λ test. refl;
      cached = λ h o none is. uncached_before h o channel m past none is;
    }) over tame

-- behind the line of a command
pub going_line : (header : Header) (outside : Outside) (line : ℕ) (past : List Event) → HasEnded header outside past → NoneWaitsOnWild header past
    → Going header (event.Line line ∷ past)
going_line header outside line past over tame =
    going_begun header outside (event.Line line ∷ past) past (record {
      lies = refl;
      waits = λ task. refl;
      pages = λ task. refl;
      lives = λ h o. refl;
      unowed = refl;
      fresh = λ test. refl;
      cached = λ h o none is. is;
    }) over tame
