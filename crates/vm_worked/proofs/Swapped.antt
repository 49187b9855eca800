-- The history in which the pages of an ended task's object go by falling number is legal, and not canonical.
use Rattle.std.proofs.Common.{ℕ, ◌≡◌, ◌∙◌, Bool, Option, List, [], ◌∷◌, true, false, refl, subst, sym, arith, Some, None, inl, inr}
use Rattle.std.proofs.lemmas.Bool.Decides.{nat_tests}
use Rattle.std.specs.Prelude.{◌==◌, ◌&&◌, ◌||◌, nat_lt, if◌then◌else◌}
use Rattle.vm_base.specs.declared.entry.Entry.{Entry}
use Rattle.vm_base.specs.declared.ids.Inherit.TheVariants.{Copy}
use Rattle.vm_model.specs.declared.command.Command.{Command}
use Rattle.vm_model.specs.declared.command.Command.TheVariants as command
use Rattle.vm_model.specs.declared.command.Numbered.{Numbered}
use Rattle.vm_model.specs.declared.event.Event.{Event}
use Rattle.vm_model.specs.declared.event.Event.TheVariants as event
use Rattle.vm_model.specs.Controls.{live_control}
use Rattle.vm_model.specs.Local.{Drops as Drop, Elsewhere, Local, Zeroes, away, local_after}
use Rattle.vm_model.specs.Moments.{BeforeSteps, EachEvent, EachMoment}
use Rattle.vm_model.specs.Waiting.{Access, Loading}
use Rattle.vm_legal.specs.Accesses.{Waits}
use Rattle.vm_legal.specs.Bytes.{FlatBytes, OwnBytes}
use Rattle.vm_legal.specs.Debts.{IsPaid}
use Rattle.vm_legal.specs.Follows.{Follows}
use Rattle.vm_legal.specs.Frames.{FramesSuffice}
use Rattle.vm_legal.specs.InTurn.{DropsInTurn}
use Rattle.vm_legal.specs.Legal.{CanonicalFor, LegalFor}
use Rattle.vm_legal.specs.Licences.{AllLicensed, Discarded, DropCause, Ended, Flushed, Reclaimed, Unreached}
use Rattle.vm_legal.specs.Prompt.{AllServed, Prompt}
use Rattle.vm_legal.specs.Swept.{IsSwept}
use Rattle.vm_legal.specs.Reclaims.{PagesOut, Starves}
use Rattle.vm_legal.specs.Used.{in_use}
use Rattle.vm_legal.specs.Walks.{Reach, page_on}
use Rattle.vm_legal.proofs.Locks.{no_request}
use Rattle.vm_legal.proofs.Unshared.{NoneIsShared, none_shared}
use Rattle.vm_quiet.specs.Full.{host, object, region, task}
use Rattle.vm_worked.specs.Swapped.{commands, first, header, history, outside, second}
use Rattle.vm_worked.proofs.Steps.{clash, each_step, neither, nobody, not_shared, number_is, one_suffices, one_writer, owes_nothing, served, suffice}
use Rattle.vm_worked.proofs.Turns.{each_in_turn}
use Rattle.vm_legal.specs.Destroyed.{HostObject}

-- the moments at which a step has ended

abbrev made : List Event
made = event.TaskMade task host ∷ event.Line 3 ∷ []

abbrev allocated : List Event
allocated = event.Entered task 0 32 region 0 (record { read = true; write = true }) Copy ∷ event.RegionMade region object 2 ∷ event.Line 4 ∷ made

abbrev loads : List Event
loads = event.BegunLoad task 0 1 ∷ event.Line 5 ∷ allocated

abbrev loaded : List Event
loaded = event.Loaded task object first 0 ∷ event.Zeroed host object first ∷ loads

abbrev loads_again : List Event
loads_again = event.BegunLoad task 16 1 ∷ event.Line 6 ∷ loaded

abbrev loaded_both : List Event
loaded_both = event.Loaded task object second 0 ∷ event.Zeroed host object second ∷ loads_again

-- the task has ended, and both pages are still here
abbrev ended : List Event
ended = event.TaskEnded task ∷ event.Line 7 ∷ loaded_both

unshared : NoneIsShared header
unshared = none_shared header (λ o below. absurd (omega (arith, below)))

-- bytes and frames

abbrev entry : Entry
entry = record { address = 0; bytes = 32; region = region; offset = 0; prot = record { read = true; write = true }; inherit = Copy }

abbrev first_waits : Waits header 0 (Loading 0 1) loads
first_waits = record { waits = refl; at = record { host = 0; entry = entry; lives = refl; found = refl }; left = tt }

abbrev first_still : Waits header 0 (Loading 0 1) (event.Zeroed host object first ∷ loads)
first_still = record { waits = refl; at = record { host = 0; entry = entry; lives = refl; found = refl }; left = tt }

abbrev second_waits : Waits header 0 (Loading 16 1) loads_again
second_waits = record { waits = refl; at = record { host = 0; entry = entry; lives = refl; found = refl }; left = tt }

abbrev second_still : Waits header 0 (Loading 16 1) (event.Zeroed host object second ∷ loads_again)
second_still = record { waits = refl; at = record { host = 0; entry = entry; lives = refl; found = refl }; left = tt }

own_first : OwnBytes header (event.Loaded task object first 0) (event.Zeroed host object first ∷ loads)
own_first = record { address = 0; bytes = 1; waits = first_still; readable = record { here = refl; unlocked = inl refl }; number = refl }

own_second : OwnBytes header (event.Loaded task object second 0) (event.Zeroed host object second ∷ loads_again)
own_second = record { address = 16; bytes = 1; waits = second_still; readable = record { here = refl; unlocked = inl refl }; number = refl }

own_bytes : EachEvent (OwnBytes header) history
own_bytes = (tt, (tt, (tt, (tt, (own_second, (tt, (tt, (tt, (own_first, (tt, (tt, (tt, (tt, (tt, (tt, (tt, (tt, tt)))))))))))))))))

flat_first : FlatBytes header outside (event.Loaded task object first 0) (event.Zeroed host object first ∷ loads)
flat_first = record { address = 0; bytes = 1; waits = first_still; number = λ flat. refl }

flat_second : FlatBytes header outside (event.Loaded task object second 0) (event.Zeroed host object second ∷ loads_again)
flat_second = record { address = 16; bytes = 1; waits = second_still; number = λ flat. refl }

flat_bytes : EachEvent (FlatBytes header outside) history
flat_bytes = (tt, (tt, (tt, (tt, (flat_second, (tt, (tt, (tt, (flat_first, (tt, (tt, (tt, (tt, (tt, (tt, (tt, (tt, tt)))))))))))))))))

frames : EachMoment (FramesSuffice header) history
frames = suffice header 4 (one_suffices header 4 refl) history refl

-- nothing is left behind

swept : (past : List Event) → ((o p : ℕ) → (Reach header 0 o past → ⊥) → (page_on header 0 o p past).here ≡ false) → ((o : ℕ) → live_control 0 o past ≡ None)
    → IsSwept header 0 past
swept past pages controls =
    record {
      pages = λ o p ours unreached. pages o p unreached;
      controls = λ o ours unreached. controls o;
      declared_pages = λ o p below unheld. absurd (omega (arith, below));
      declared_controls = λ o below unheld. absurd (omega (arith, below));
    }

-- what was zeroed in an object that is another one is not here
apart_one : (a b : Bool) → a ≡ false → (local_after 16 (if a && b then Zeroes else Elsewhere) away).here ≡ false
apart_one true b is = absurd (clash is)
apart_one false b is = refl

apart_both : (a b c : Bool) → a ≡ false → (local_after 16 (if a && c then Zeroes else Elsewhere)
    (local_after 16 (if a && b then Zeroes else Elsewhere) away)).here ≡ false
apart_both true b c is = absurd (clash is)
apart_both false b c is = refl

-- whatever was zeroed has gone
gone : (a b c : Bool)
    → (local_after 16 (if a && b then Drop else Elsewhere)
    (local_after 16 (if a && c then Drop else Elsewhere) (local_after 16 (if a && c then Zeroes else Elsewhere)
    (local_after 16 (if a && b then Zeroes else Elsewhere) away)))).here ≡ false
gone true true true = refl
gone true true false = refl
gone true false true = refl
gone true false false = refl
gone false b c = refl

-- the task's region leads to the object
nothing_loaded : IsSwept header 0 loaded
nothing_loaded = swept loaded pages (λ o. refl)
  where
    pages : (o p : ℕ) → (Reach header 0 o loaded → ⊥) → (page_on header 0 o p loaded).here ≡ false
    pages o p unreached = by (0 == o) refl
      where
        by : (b : Bool) → (0 == o) ≡ b → (page_on header 0 o p loaded).here ≡ false
        by true is = absurd (unreached (subst (λ (k : ℕ). Reach header 0 k loaded) (number_is 0 o is) (0, 0, refl, refl)))
        by false is = apart_one (0 == o) (0 == p) is

nothing_loaded_both : IsSwept header 0 loaded_both
nothing_loaded_both = swept loaded_both pages (λ o. refl)
  where
    pages : (o p : ℕ) → (Reach header 0 o loaded_both → ⊥) → (page_on header 0 o p loaded_both).here ≡ false
    pages o p unreached = by (0 == o) refl
      where
        by : (b : Bool) → (0 == o) ≡ b → (page_on header 0 o p loaded_both).here ≡ false
        by true is = absurd (unreached (subst (λ (k : ℕ). Reach header 0 k loaded_both) (number_is 0 o is) (0, 0, refl, refl)))
        by false is = apart_both (0 == o) (0 == p) (1 == p) is

nothing_left : IsSwept header 0 history
nothing_left = swept history (λ o p unreached. gone (0 == o) (0 == p) (1 == p)) (λ o. refl)

-- nobody waits

idle_loaded : (b : Bool) → ◌≡◌ {A = Option Access} (if b then None else (if b then Some (Loading 0 1) else (if b then None else None))) None
idle_loaded true = refl
idle_loaded false = refl

idle_both : (b : Bool) → ◌≡◌ {A = Option Access} (if b then None else (if b then Some (Loading 16 1) else
    (if b then None else (if b then Some (Loading 0 1) else (if b then None else None))))) None
idle_both true = refl
idle_both false = refl

idle_ended : (b : Bool)
    → ◌≡◌ {A = Option Access} (if b then None else (if b then None else (if b then Some (Loading 16 1) else
    (if b then None else (if b then Some (Loading 0 1) else (if b then None else None)))))) None
idle_ended true = refl
idle_ended false = refl

prompts : BeforeSteps (Prompt header) history
prompts = (
  nobody header refl loaded_both (λ t. idle_both (0 == t)) nothing_loaded_both (λ o. refl),
  (
    nobody header refl loaded (λ t. idle_loaded (0 == t)) nothing_loaded (λ o. refl),
    (
      nobody header refl allocated (λ t. neither (0 == t)) (swept allocated (λ o p unreached. refl) (λ o. refl)) (λ o. refl),
      (
        nobody header refl made (λ t. neither (0 == t)) (swept made (λ o p unreached. refl) (λ o. refl)) (λ o. refl),
        (nobody header refl [] (λ t. refl) (swept [] (λ o p unreached. refl) (λ o. refl)) (λ o. refl), tt),
      ),
    ),
  ),
)

prompt_now : Prompt header history
prompt_now = nobody header refl history (λ t. idle_ended (0 == t)) nothing_left (λ o. refl)

-- no step took anything

all_paid : BeforeSteps (IsPaid header) history
all_paid = (
  owes_nothing header loaded_both refl refl refl refl refl refl refl,
  (
    owes_nothing header loaded refl refl refl refl refl refl refl,
    (
      owes_nothing header allocated refl refl refl refl refl refl refl,
      (owes_nothing header made refl refl refl refl refl refl refl, (owes_nothing header [] refl refl refl refl refl refl refl, tt)),
    ),
  ),
)

paid_now : IsPaid header history
paid_now = owes_nothing header history refl refl refl refl refl refl refl

-- each command has its group

abbrev allocate_group : List Event
allocate_group = event.Entered task 0 32 region 0 (record { read = true; write = true }) Copy ∷ event.RegionMade region object 2 ∷ []

allocate_licensed : AllLicensed header outside (command.Allocate task 0 32) allocate_group (event.Line 4 ∷ made)
allocate_licensed = (
  (
    record {
      idle = refl;
      host = 0;
      lives = refl;
      whole = refl;
      inside = omega arith;
      made = omega arith;
      used = λ above. refl;
      file = λ is. refl;
      unfilled = refl;
    },
    tt,
  ),
  (((refl, refl), tt), tt),
)

abbrev first_group : List Event
first_group = event.Loaded task object first 0 ∷ event.Zeroed host object first ∷ event.BegunLoad task 0 1 ∷ []

first_licensed : AllLicensed header outside (command.Load task 0 1) first_group (event.Line 5 ∷ allocated)
first_licensed = (
  (
    record {
      address = 0;
      bytes = 1;
      waits = first_still;
      comes = record { top = 0; top_page = 0; steps = 0; is_top = record { object = refl; page = refl }; walks = (refl, refl) };
      here = refl;
    },
    tt,
  ),
  (
    (
      inr (record {
        task = 0;
        access = Loading 0 1;
        waits = first_waits;
        on_host = refl;
        temporary = omega arith;
        unmarked = λ store. refl;
        is_top = record { object = refl; page = refl };
        steps = 0;
        sinks = (record { away = refl; unasked = refl; without = refl }, refl);
        plain = λ depth below is. omega arith;
      }),
      tt,
    ),
    ((refl, tt), tt),
  ),
)

abbrev second_group : List Event
second_group = event.Loaded task object second 0 ∷ event.Zeroed host object second ∷ event.BegunLoad task 16 1 ∷ []

second_licensed : AllLicensed header outside (command.Load task 16 1) second_group (event.Line 6 ∷ loaded)
second_licensed = (
  (
    record {
      address = 16;
      bytes = 1;
      waits = second_still;
      comes = record { top = 0; top_page = 1; steps = 0; is_top = record { object = refl; page = refl }; walks = (refl, refl) };
      here = refl;
    },
    tt,
  ),
  (
    (
      inr (record {
        task = 0;
        access = Loading 16 1;
        waits = second_waits;
        on_host = refl;
        temporary = omega arith;
        unmarked = λ store. refl;
        is_top = record { object = refl; page = refl };
        steps = 0;
        sinks = (record { away = refl; unasked = refl; without = refl }, refl);
        plain = λ depth below is. omega arith;
      }),
      tt,
    ),
    ((refl, tt), tt),
  ),
)

abbrev exit_group : List Event
exit_group = event.Dropped host object first ∷ event.Dropped host object second ∷ event.TaskEnded task ∷ []

-- behind the end of the task no region is in use
unused : (r : ℕ) → in_use header 0 r ended ≡ false
unused r = off (nat_lt r 0) (in_use header 0 r loaded_both) (grind (arith, nat_tests))
  where
    off : (b used : Bool) → b ≡ false → ((b || false) && used) ≡ false
    off true used is = absurd (clash is)
    off false used is = refl

unreached : Reach header 0 0 ended → ⊥
unreached (r, n, used, below) = clash (sym used ∙ unused r)

unreached_still : Reach header 0 0 (event.Dropped host object second ∷ ended) → ⊥
unreached_still (r, n, used, below) = clash (sym used ∙ unused r)

exit_licensed : AllLicensed header outside (command.Exit task) exit_group (event.Line 7 ∷ loaded_both)
exit_licensed = (
  (record { here = refl; why = Unreached (omega arith) unreached_still }, tt),
  ((record { here = refl; why = Unreached (omega arith) unreached }, tt), ((refl, tt), tt)),
)

follows : Follows header outside commands history
follows = (
  loaded_both,
  exit_group,
  refl,
  record { more = event.Dropped host object first ∷ event.Dropped host object second ∷ []; is = refl; follows = (tt, (tt, tt)); licensed = exit_licensed },
  tt,
  (
    loaded,
    second_group,
    refl,
    record { more = event.Loaded task object second 0 ∷ event.Zeroed host object second ∷ []; is = refl; follows = (tt, (tt, tt)); licensed = second_licensed },
    tt,
    (
      allocated,
      first_group,
      refl,
      record { more = event.Loaded task object first 0 ∷ event.Zeroed host object first ∷ []; is = refl; follows = (tt, (tt, tt)); licensed = first_licensed },
      tt,
      (
        made,
        allocate_group,
        refl,
        record { more = []; is = refl; follows = tt; licensed = allocate_licensed },
        tt,
        ([], event.TaskMade task host ∷ [], refl, record { more = []; is = refl; follows = tt; licensed = ((tt, tt), tt) }, tt, refl),
      ),
    ),
  ),
)

pub legal : LegalFor header outside commands history
legal =
    record {
      follows = follows;
      holds =
          record {
            own_bytes = own_bytes;
            flat_bytes = flat_bytes;
            frames = frames;
            prompt = prompts;
            paid = all_paid;
            served = each_step (AllServed header) (served header unshared) history;
            one_writer = one_writer header unshared history;
            pages = λ o p shared. not_shared header unshared o shared;
          };
      rests = record { prompt = prompt_now; paid = paid_now; served = served header unshared history };
    }

-- and yet the second page doesn't go in its turn: it has no other cause than that no region leads to it, and the first one is here

no_pageout : (doing : Command) → PagesOut doing 0 ended → ⊥
no_pageout (command.Pageout at count) pages = pages.2.0
no_pageout other pages = pages

no_starving : Starves header 0 ended → ⊥
no_starving starves = let none : 2 ≡ 0 = starves.none in absurd (omega (arith, none))

out_of_turn : (doing : Command) (seen : Local) (why : DropCause header doing 0 0 1 seen ended) → DropsInTurn header doing 0 0 1 seen ended why → ⊥
out_of_turn doing seen (Reclaimed clean plain reclaims) turn = elim reclaims.may [ inl pages ↦ no_pageout doing pages | inr starves ↦ no_starving starves ]
out_of_turn doing seen (Unreached temporary apart) turn = clash (turn 0 (omega arith))
out_of_turn doing seen (Flushed returns locked gives) turn = no_request _ ended refl locked.taken
out_of_turn doing seen (Discarded destroyed rising) turn =
    let bad : ◌≡◌ {A = Option HostObject} None (Some (record { host = 0; object = 0 })) = destroyed.taken in absurd (cc)
out_of_turn doing seen (Ended clean plain declared unheld) turn = absurd (omega (arith, declared))

pub not_canonical : (run : List Numbered) → CanonicalFor header outside run history → ⊥
not_canonical run is =
    let (doing, caused) = (each_in_turn header outside run history is.follows).1.0 in
    out_of_turn doing (page_on header 0 0 1 ended) caused.0.why caused.1
