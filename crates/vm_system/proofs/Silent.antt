-- What holds at the end of a step doesn't change with a line, or with the code of a refusal.
use Rattle.vm_system.proofs.Common.{AReady, Access, AllInner, AllRest, AnAnswer, AnUnlock, AtPlace, Awaits, AwaitsPage, Bool, Code, Comes, Copies, Elsewhere}
use Rattle.vm_system.proofs.Common.{Event, HasPlace}
use Rattle.vm_system.proofs.Common.{ForPush, Header, HostIsFull, HostTable, IsExhausted, IsPaid, IsSource, List, None, NoneInVain, Nowhere, Prompt, Raises}
use Rattle.vm_system.proofs.Common.{Some, Waits}
use Rattle.vm_system.proofs.Common.{OwesPush, Pushes, WaitsForPager, WaitsUnlocked, WantsFrame, [], ap, common_all, false, inl, inr, is_some, is_store, owed}
use Rattle.vm_system.proofs.Common.{page_of, paid_of}
use Rattle.vm_system.proofs.Common.{refl, true, ℕ, ◌++◌, ◌∷◌, ◌≡◌}
use Rattle.vm_legal.proofs.Exhausted.{exhausted_still}
use Rattle.vm_model.specs.declared.event.Event.TheVariants as event
use Rattle.vm_base.specs.declared.ids.HostId.{HostId}
use Rattle.vm_base.specs.declared.ids.ObjectId.{ObjectId}
use Rattle.vm_legal.proofs.Inside.{error_more}
use Rattle.vm_legal.specs.InTurn.{EndsAll, NoneSleeps}
use Rattle.std.proofs.Common.{sym, ◌∙◌}
use Rattle.vm_legal.specs.Steps.{error_taken}
use Rattle.vm_model.specs.declared.message.Channel.TheVariants.{Up}
use Rattle.vm_model.specs.declared.message.Message.{Message}

-- the accesses that wait, and what they wait for

abbrev waits_line : (header : Header) (task : ℕ) (access : Access) (line : ℕ) (h : List Event) → Waits header task access h
    → Waits header task access (event.Line line ∷ h)
waits_line header task access line h w =
    record { waits = w.waits; at = record { host = w.at.host; entry = w.at.entry; lives = w.at.lives; found = w.at.found }; left = w.left }

abbrev waits_of_line : (header : Header) (task : ℕ) (access : Access) (line : ℕ) (h : List Event) → Waits header task access (event.Line line ∷ h)
    → Waits header task access h
waits_of_line header task access line h w =
    record { waits = w.waits; at = record { host = w.at.host; entry = w.at.entry; lives = w.at.lives; found = w.at.found }; left = w.left }

place_line : (header : Header) (region page object object_page : ℕ) (line : ℕ) (h : List Event) → HasPlace header region page object object_page h
    → HasPlace header region page object object_page (event.Line line ∷ h)
place_line header region page object object_page line h is =
    record { top = is.top; top_page = is.top_page; steps = is.steps; is_top = is.is_top; leads = is.leads }

comes_line : (header : Header) (host region page object object_page : ℕ) (line : ℕ) (h : List Event) → Comes header host region page object object_page h
    → Comes header host region page object object_page (event.Line line ∷ h)
comes_line header host region page object object_page line h is =
    record { top = is.top; top_page = is.top_page; steps = is.steps; is_top = is.is_top; walks = is.walks }

owes_line : (header : Header) (host object page copy : ℕ) (line : ℕ) (h : List Event) → OwesPush header host object page copy h
    → OwesPush header host object page copy (event.Line line ∷ h)
owes_line header host object page copy line h owes =
    record { file = owes.file; newest = owes.newest; lives = owes.lives; unpushed = owes.unpushed }

wants_line : (header : Header) (host task : ℕ) (access : Access) (region page : ℕ) (line : ℕ) (h : List Event)
    → WantsFrame header host task access region page h → WantsFrame header host task access region page (event.Line line ∷ h)
wants_line header host task access region page line h (Nowhere served top top_page steps is sinks) =
    Nowhere served top top_page steps is sinks
wants_line header host task access region page line h (Elsewhere object object_page comes away unasked may ready) =
    Elsewhere object object_page (comes_line header host region page object object_page line h comes) away unasked may ready
wants_line header host task access region page line h (Copies object object_page comes here address bytes to is) =
    Copies object object_page (comes_line header host region page object object_page line h comes) here address bytes to is
wants_line header host task access region page line h (Raises top top_page steps object object_page is walks here store) =
    Raises top top_page steps object object_page is walks here store
wants_line header host task access region page line h (Pushes object object_page copy is here store owes unasked) =
    Pushes object object_page copy is here store (owes_line header host object object_page copy line h owes) unasked

awaits_line : (header : Header) (host : ℕ) (store : Bool) (object page : ℕ) (line : ℕ) (h : List Event) → Awaits header host store object page h
    → Awaits header host store object page (event.Line line ∷ h)
awaits_line header host store object page line h (AnAnswer asked) = AnAnswer asked
awaits_line header host store object page line h (AReady control live unready) = AReady control live unready
awaits_line header host store object page line h (AnUnlock here named unlocking) = AnUnlock here named unlocking

awaits_page_line : (header : Header) (host : ℕ) (access : Access) (region page : ℕ) (line : ℕ) (h : List Event)
    → AwaitsPage header host access region page h → AwaitsPage header host access region page (event.Line line ∷ h)
awaits_page_line header host access region page line h (AtPlace object object_page place what) =
    AtPlace object object_page (place_line header region page object object_page line h place)
    (awaits_line header host (is_store access) object object_page line h what)
awaits_page_line header host access region page line h (ForPush object object_page copy store is owes asked) =
    ForPush object object_page copy store is (owes_line header host object object_page copy line h owes) asked

for_pager_line : (header : Header) (host task : ℕ) (access : Access) (line : ℕ) (h : List Event) → WaitsForPager header host task access h
    → WaitsForPager header host task access (event.Line line ∷ h)
for_pager_line header host task access line h is = record {
  waits = waits_line header task access line h is.waits;
  on_host = is.on_host;
  what = awaits_page_line header host access is.waits.at.entry.region.0 (page_of header task access h is.waits.at.entry) line h is.what;
}

unlocked_line : (header : Header) (host object page : ℕ) (line : ℕ) (h : List Event) → WaitsUnlocked header host object page h
    → WaitsUnlocked header host object page (event.Line line ∷ h)
unlocked_line header host object page line h is = record {
  task = is.task;
  access = is.access;
  waits = waits_line header is.task is.access line h is.waits;
  on_host = is.on_host;
  place = place_line header is.waits.at.entry.region.0 (page_of header is.task is.access h is.waits.at.entry) object page line h is.place;
  here = is.here;
  named = is.named;
  unlocking = is.unlocking;
}

source_line : (header : Header) (host object page : ℕ) (line : ℕ) (h : List Event) → IsSource header host object page h
    → IsSource header host object page (event.Line line ∷ h)
source_line header host object page line h is = record {
  task = is.task;
  access = is.access;
  waits = waits_line header is.task is.access line h is.waits;
  on_host = is.on_host;
  comes = comes_line header host is.waits.at.entry.region.0 (page_of header is.task is.access h is.waits.at.entry) object page line h is.comes;
  wants = wants_line header host is.task is.access is.waits.at.entry.region.0 (page_of header is.task is.access h is.waits.at.entry) line h is.wants;
}

exhausted_line : (header : Header) (host : ℕ) (line : ℕ) (h : List Event) → IsExhausted header host h h
    → IsExhausted header host (event.Line line ∷ h) (event.Line line ∷ h)
exhausted_line header host line h =
    exhausted_still header host h (event.Line line ∷ h) (λ o p here. here) (λ o p. unlocked_line header host o p line h)
    (λ o p. source_line header host o p line h)

full_line : (header : Header) (host : ℕ) (line : ℕ) (h : List Event) → HostIsFull header host h → HostIsFull header host (event.Line line ∷ h)
full_line header host line h is =
    record { none = is.none; why = elim (is.why) [ inl out ↦ inl out | inr exhausted ↦ inr (exhausted_line header host line h exhausted) ] }

not_in_vain_line : (header : Header) (host : ℕ) (line : ℕ) (h : List Event) → NoneInVain header host h → NoneInVain header host (event.Line line ∷ h)
not_in_vain_line header host line h none task access waits on = elim (none task access (waits_of_line header task access line h waits) on) [
  | inl for ↦ inl (for_pager_line header host task access line h for)
  | inr full ↦ inr (full_line header host line h full)
]

pub prompt_line : (header : Header) (line : ℕ) (h : List Event) → Prompt header h → Prompt header (event.Line line ∷ h)
prompt_line header line h prompt host below = record {
  leads = λ task access waits on. waits_line header task access line h ((prompt host below).leads task access waits on);
  waits = not_in_vain_line header host line h (prompt host below).waits;
  swept =
      let swept = (prompt host below).swept in record {
        pages = swept.pages;
        controls = swept.controls;
        declared_pages =
            λ object page low held.
            swept.declared_pages object page low (record { unmapped = held.unmapped; uncached = held.uncached; unreached = held.unreached });
        declared_controls =
            λ object low held.
            swept.declared_controls object low (record { unmapped = held.unmapped; uncached = held.uncached; unreached = held.unreached });
      };
  thin = λ upper lower pair.
      (prompt host below).thin upper lower (record {
        temporary = pair.temporary;
        plain = pair.plain;
        reached = pair.reached;
        backed = pair.backed;
        under = pair.under;
        no_top = pair.no_top;
        sole = pair.sole;
        upper_never = pair.upper_never;
        lower_never = pair.lower_never;
      });
}

pub awake_line : (header : Header) (line : ℕ) (h : List Event) → NoneSleeps header h → NoneSleeps header (event.Line line ∷ h)
awake_line header line h awake host known task sleeper =
    awake host known task
    (record {
      access = sleeper.access;
      waits = waits_of_line header task sleeper.access line h sleeper.waits;
      on_host = sleeper.on_host;
      object = sleeper.object;
      page = sleeper.page;
      comes =
          record {
            top = sleeper.comes.top;
            top_page = sleeper.comes.top_page;
            steps = sleeper.comes.steps;
            is_top = sleeper.comes.is_top;
            walks = sleeper.comes.walks;
          };
      here = sleeper.here;
      let_in = sleeper.let_in;
      free = λ store copy owes. sleeper.free store copy (owes_line header host sleeper.object sleeper.page copy line h owes);
      told = λ other other_page place. sleeper.told other other_page (place_line header sleeper.waits.at.entry.region.0
          (page_of header task sleeper.access h sleeper.waits.at.entry) other other_page line h place);
    })

-- a code

abbrev waits_code : (header : Header) (task : ℕ) (access : Access) (why : Code) (h : List Event) → Waits header task access h
    → Waits header task access (event.Refused why ∷ h)
waits_code header task access why h w =
    record { waits = w.waits; at = record { host = w.at.host; entry = w.at.entry; lives = w.at.lives; found = w.at.found }; left = w.left }

abbrev waits_of_code : (header : Header) (task : ℕ) (access : Access) (why : Code) (h : List Event) → Waits header task access (event.Refused why ∷ h)
    → Waits header task access h
waits_of_code header task access why h w =
    record { waits = w.waits; at = record { host = w.at.host; entry = w.at.entry; lives = w.at.lives; found = w.at.found }; left = w.left }

place_code : (header : Header) (region page object object_page : ℕ) (why : Code) (h : List Event) → HasPlace header region page object object_page h
    → HasPlace header region page object object_page (event.Refused why ∷ h)
place_code header region page object object_page why h is =
    record { top = is.top; top_page = is.top_page; steps = is.steps; is_top = is.is_top; leads = is.leads }

comes_code : (header : Header) (host region page object object_page : ℕ) (why : Code) (h : List Event) → Comes header host region page object object_page h
    → Comes header host region page object object_page (event.Refused why ∷ h)
comes_code header host region page object object_page why h is =
    record { top = is.top; top_page = is.top_page; steps = is.steps; is_top = is.is_top; walks = is.walks }

owes_code : (header : Header) (host object page copy : ℕ) (why : Code) (h : List Event) → OwesPush header host object page copy h
    → OwesPush header host object page copy (event.Refused why ∷ h)
owes_code header host object page copy why h owes =
    record { file = owes.file; newest = owes.newest; lives = owes.lives; unpushed = owes.unpushed }

wants_code : (header : Header) (host task : ℕ) (access : Access) (region page : ℕ) (why : Code) (h : List Event)
    → WantsFrame header host task access region page h → WantsFrame header host task access region page (event.Refused why ∷ h)
wants_code header host task access region page why h (Nowhere served top top_page steps is sinks) =
    Nowhere served top top_page steps is sinks
wants_code header host task access region page why h (Elsewhere object object_page comes away unasked may ready) =
    Elsewhere object object_page (comes_code header host region page object object_page why h comes) away unasked may ready
wants_code header host task access region page why h (Copies object object_page comes here address bytes to is) =
    Copies object object_page (comes_code header host region page object object_page why h comes) here address bytes to is
wants_code header host task access region page why h (Raises top top_page steps object object_page is walks here store) =
    Raises top top_page steps object object_page is walks here store
wants_code header host task access region page why h (Pushes object object_page copy is here store owes unasked) =
    Pushes object object_page copy is here store (owes_code header host object object_page copy why h owes) unasked

awaits_code : (header : Header) (host : ℕ) (store : Bool) (object page : ℕ) (why : Code) (h : List Event) → Awaits header host store object page h
    → Awaits header host store object page (event.Refused why ∷ h)
awaits_code header host store object page why h (AnAnswer asked) = AnAnswer asked
awaits_code header host store object page why h (AReady control live unready) = AReady control live unready
awaits_code header host store object page why h (AnUnlock here named unlocking) = AnUnlock here named unlocking

awaits_page_code : (header : Header) (host : ℕ) (access : Access) (region page : ℕ) (why : Code) (h : List Event)
    → AwaitsPage header host access region page h → AwaitsPage header host access region page (event.Refused why ∷ h)
awaits_page_code header host access region page why h (AtPlace object object_page place what) =
    AtPlace object object_page (place_code header region page object object_page why h place)
    (awaits_code header host (is_store access) object object_page why h what)
awaits_page_code header host access region page why h (ForPush object object_page copy store is owes asked) =
    ForPush object object_page copy store is (owes_code header host object object_page copy why h owes) asked

for_pager_code : (header : Header) (host task : ℕ) (access : Access) (why : Code) (h : List Event) → WaitsForPager header host task access h
    → WaitsForPager header host task access (event.Refused why ∷ h)
for_pager_code header host task access why h is = record {
  waits = waits_code header task access why h is.waits;
  on_host = is.on_host;
  what = awaits_page_code header host access is.waits.at.entry.region.0 (page_of header task access h is.waits.at.entry) why h is.what;
}

unlocked_code : (header : Header) (host object page : ℕ) (why : Code) (h : List Event) → WaitsUnlocked header host object page h
    → WaitsUnlocked header host object page (event.Refused why ∷ h)
unlocked_code header host object page why h is = record {
  task = is.task;
  access = is.access;
  waits = waits_code header is.task is.access why h is.waits;
  on_host = is.on_host;
  place = place_code header is.waits.at.entry.region.0 (page_of header is.task is.access h is.waits.at.entry) object page why h is.place;
  here = is.here;
  named = is.named;
  unlocking = is.unlocking;
}

source_code : (header : Header) (host object page : ℕ) (why : Code) (h : List Event) → IsSource header host object page h
    → IsSource header host object page (event.Refused why ∷ h)
source_code header host object page why h is = record {
  task = is.task;
  access = is.access;
  waits = waits_code header is.task is.access why h is.waits;
  on_host = is.on_host;
  comes = comes_code header host is.waits.at.entry.region.0 (page_of header is.task is.access h is.waits.at.entry) object page why h is.comes;
  wants = wants_code header host is.task is.access is.waits.at.entry.region.0 (page_of header is.task is.access h is.waits.at.entry) why h is.wants;
}

exhausted_code : (header : Header) (host : ℕ) (why : Code) (h : List Event) → IsExhausted header host h h
    → IsExhausted header host (event.Refused why ∷ h) (event.Refused why ∷ h)
exhausted_code header host why h =
    exhausted_still header host h (event.Refused why ∷ h) (λ o p here. here) (λ o p. unlocked_code header host o p why h)
    (λ o p. source_code header host o p why h)

full_code : (header : Header) (host : ℕ) (why : Code) (h : List Event) → HostIsFull header host h → HostIsFull header host (event.Refused why ∷ h)
full_code header host why h is =
    record { none = is.none; why = elim (is.why) [ inl out ↦ inl out | inr exhausted ↦ inr (exhausted_code header host why h exhausted) ] }

not_in_vain_code : (header : Header) (host : ℕ) (why : Code) (h : List Event) → NoneInVain header host h → NoneInVain header host (event.Refused why ∷ h)
not_in_vain_code header host why h none task access waits on = elim (none task access (waits_of_code header task access why h waits) on) [
  | inl for ↦ inl (for_pager_code header host task access why h for)
  | inr full ↦ inr (full_code header host why h full)
]

pub awake_code : (header : Header) (why : Code) (h : List Event) → NoneSleeps header h → NoneSleeps header (event.Refused why ∷ h)
awake_code header why h awake host known task sleeper =
    awake host known task
    (record {
      access = sleeper.access;
      waits = waits_of_code header task sleeper.access why h sleeper.waits;
      on_host = sleeper.on_host;
      object = sleeper.object;
      page = sleeper.page;
      comes =
          record {
            top = sleeper.comes.top;
            top_page = sleeper.comes.top_page;
            steps = sleeper.comes.steps;
            is_top = sleeper.comes.is_top;
            walks = sleeper.comes.walks;
          };
      here = sleeper.here;
      let_in = sleeper.let_in;
      free = λ store copy owes. sleeper.free store copy (owes_code header host sleeper.object sleeper.page copy why h owes);
      told = λ other other_page place. sleeper.told other other_page (place_code header sleeper.waits.at.entry.region.0
          (page_of header task sleeper.access h sleeper.waits.at.entry) other other_page why h place);
    })

pub prompt_code : (header : Header) (why : Code) (h : List Event) → Prompt header h → Prompt header (event.Refused why ∷ h)
prompt_code header why h prompt host below = record {
  leads = λ task access waits on. waits_code header task access why h ((prompt host below).leads task access waits on);
  waits = not_in_vain_code header host why h (prompt host below).waits;
  swept =
      let swept = (prompt host below).swept in record {
        pages = swept.pages;
        controls = swept.controls;
        declared_pages =
            λ object page low held.
            swept.declared_pages object page low (record { unmapped = held.unmapped; uncached = held.uncached; unreached = held.unreached });
        declared_controls =
            λ object low held.
            swept.declared_controls object low (record { unmapped = held.unmapped; uncached = held.uncached; unreached = held.unreached });
      };
  thin = λ upper lower pair.
      (prompt host below).thin upper lower (record {
        temporary = pair.temporary;
        plain = pair.plain;
        reached = pair.reached;
        backed = pair.backed;
        under = pair.under;
        no_top = pair.no_top;
        sole = pair.sole;
        upper_never = pair.upper_never;
        lower_never = pair.lower_never;
      });
}

-- no create waits for its return
pub all_settled : (header : Header) (hosts : HostTable) (past : List Event) → AllRest header hosts past → owed past ≡ None
all_settled header hosts past rests = (common_all header hosts past rests).settled.none_owed

-- a step that takes nothing owes nothing

pub paid_inner : (header : Header) (line : ℕ) (h events : List Event) → AllInner events → owed (events ++ event.Line line ∷ h) ≡ None
    → IsPaid header (events ++ event.Line line ∷ h)
paid_inner header line h events inner none = paid_of header (event.Line line ∷ h) events (record { line = line; before = h; is = refl }) inner none

nothing_taken : {A R : Type 0} {x : A} → None ≡ Some x → R
nothing_taken is = absurd (let bad : false ≡ true = ap is_some is in cc)

-- it took no error either, nor does one that a pager's message begins

ends_none : (header : Header) (events past : List Event) → AllInner events → error_taken header past ≡ None → EndsAll header (events ++ past)
ends_none header events past inner none host object page is = nothing_taken (sym (error_more header events past inner ∙ none) ∙ is)

pub ends_lined : (header : Header) (line : ℕ) (events h : List Event) → AllInner events → EndsAll header (events ++ event.Line line ∷ h)
ends_lined header line events h inner = ends_none header events (event.Line line ∷ h) inner refl

pub ends_up : (header : Header) (host : HostId) (object : ObjectId) (m : Message) (events past : List Event) → AllInner events
    → EndsAll header (events ++ event.Taken (Up host object) m ∷ past)
ends_up header host object m events past inner = ends_none header events (event.Taken (Up host object) m ∷ past) inner refl

-- at the start nothing is owed

pub paid_start : (header : Header) → IsPaid header []
paid_start header = record {
  none_owed = refl;
  init = λ host object control size supplied is. nothing_taken is;
  create = λ host object control size supplied is. nothing_taken is;
  request = λ host object control page access paged is. nothing_taken is;
  error = λ host object page is. nothing_taken is;
  absence = λ host object page declared is. nothing_taken is;
  lock = λ request is. nothing_taken is;
  change = λ request is wanted. nothing_taken is;
  destroy = λ host object wild is. nothing_taken is;
  slot = λ host object control page dirty keep bytes temporary is lacks. nothing_taken is;
}
