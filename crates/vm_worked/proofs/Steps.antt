-- What worked histories have in common: one host; what holds where no object is shared; steps that owe nothing, and moments at which nobody waits.
use Rattle.std.proofs.Common.{ℕ, zero, suc, ◌≡◌, ◌∙◌, ◌≤◌, Bool, Option, List, [], ◌∷◌, true, false, refl, ap, sym, arith, Some, None, length}
use Rattle.std.proofs.lemmas.Bool.Decides.{nat_tests}
use Rattle.std.specs.Prelude.{◌==◌, ◌&&◌, nat_lt, if◌then◌else◌}
use Rattle.vm_model.specs.declared.event.Event.{Event}
use Rattle.vm_model.specs.declared.event.Event.TheVariants as event
use Rattle.vm_model.specs.declared.message.Channel.{Channel}
use Rattle.vm_model.specs.declared.message.Channel.TheVariants.{Up, Down}
use Rattle.vm_model.specs.declared.script.Header.{Header}
use Rattle.vm_model.specs.Moments.{BeforeSteps, EachMoment}
use Rattle.vm_model.specs.Waiting.{Access, waiting}
use Rattle.vm_model.specs.Regions.{backing_of}
use Rattle.vm_legal.specs.Merges.{IsThin}
use Rattle.vm_legal.specs.Cached.{attributes_taken}
use Rattle.vm_legal.specs.Debts.{IsPaid}
use Rattle.vm_legal.specs.Frames.{FramesSuffice, frames_used}
use Rattle.vm_legal.specs.InTurn.{AllRecalled, EndsAll, NoneSleeps}
use Rattle.vm_legal.specs.Legal.{HasOneWriter}
use Rattle.vm_legal.specs.Licences.{lock_taken, owed}
use Rattle.vm_legal.specs.Outside.{is_shared}
use Rattle.vm_legal.specs.Prompt.{AllServed, Prompt, PromptAt}
use Rattle.vm_legal.specs.Swept.{IsSwept}
use Rattle.vm_legal.specs.Steps.{Letter, absence_taken, error_taken, taken_letter}
use Rattle.vm_legal.specs.Walks.{page_on}
use Rattle.vm_legal.proofs.Locks.{no_change, no_request}
use Rattle.vm_legal.proofs.Unshared.{NoneIsShared}
use Rattle.vm_quiet.proofs.Letters.{never}
use Rattle.vm_legal.specs.Destroyed.{destroy_taken}
use Rattle.std.proofs.lemmas.Option.{none-some}

pub number_is : (a b : ℕ) → (a == b) ≡ true → a ≡ b
number_is a b is = grind (arith, nat_tests)

first_of : (a b : Bool) → a && b ≡ true → a ≡ true
first_of true b is = refl
first_of false b is = never is

second_of : (a b : Bool) → a && b ≡ true → b ≡ true
second_of true b is = is
second_of false b is = never is

pub clash : true ≡ false → ⊥
clash is = absurd (cc)

-- nothing is shared

pub not_shared : {A : Type 0} (header : Header) → NoneIsShared header → (o : ℕ) → is_shared header o ≡ true → A
not_shared header none o is = never (sym (none o) ∙ is)

pub one_writer : (header : Header) → NoneIsShared header → (past : List Event) → EachMoment (HasOneWriter header) past
one_writer header none [] = λ w r o p shared. not_shared header none o shared
one_writer header none (e ∷ past) = ((λ w r o p shared. not_shared header none o shared), one_writer header none past)

pub served : (header : Header) → NoneIsShared header → (past : List Event) → AllServed header past
served header none past o p shared = not_shared header none o shared

pub recalls : (header : Header) → NoneIsShared header → (past : List Event) → AllRecalled header past
recalls header none past o p host w shared first way = not_shared header none o shared

-- what holds at every moment holds whenever a step has ended
pub each_step : (P : List Event → Type 0) → ((past : List Event) → P past) → (history : List Event) → BeforeSteps P history
each_step P all [] = tt
each_step P all (event.Line line ∷ past) = (all past, each_step P all past)
each_step P all (event.Taken channel m ∷ past) = (all past, each_step P all past)
each_step P all (e ∷ past) = each_step P all past

-- frames

-- at every moment the first host uses no more frames than that
abbrev pub uses_few : Header → ℕ → List Event → Bool
uses_few header frames [] = true
uses_few header frames (e ∷ past) = nat_lt (frames_used header 0 (e ∷ past)) frames && uses_few header frames past

pub suffice : (header : Header) (frames : ℕ) → ((past : List Event) → frames_used header 0 past ≤ frames → FramesSuffice header past) → (past : List Event)
    → uses_few header frames past ≡ true
    → EachMoment (FramesSuffice header) past
suffice header frames enough [] few = enough [] (omega arith)
suffice header frames enough (e ∷ past) few = (
  enough (e ∷ past) (below (frames_used header 0 (e ∷ past)) (first_of (nat_lt (frames_used header 0 (e ∷ past)) frames)
      (uses_few header frames past) few)),
  suffice header frames enough past (second_of (nat_lt (frames_used header 0 (e ∷ past)) frames) (uses_few header frames past) few),
)
  where
    below : (n : ℕ) → nat_lt n frames ≡ true → n ≤ frames
    below n is = grind (arith, nat_tests)

-- the frames of the only host suffice where it uses no more
pub one_suffices : (header : Header) (frames : ℕ) → header.frames.items ≡ frames ∷ [] → (past : List Event) → frames_used header 0 past ≤ frames
    → FramesSuffice header past
one_suffices header frames one past few zero = rw one few
one_suffices header frames one past few (suc host) = rw one tt

-- what steps owe

abbrev came_up : Option Letter → Bool
came_up None = false
came_up (Some letter) = up letter.channel
  where
    up : Channel → Bool
    up (Up host object) = true
    up (Down host object control) = false

-- a step owes nothing that took nothing of a host, nor an error, nor the word that there is no page, nor a lock_request, nor a change of attributes, nor the
-- end of an object
pub owes_nothing : (header : Header) (past : List Event) → owed past ≡ None → came_up (taken_letter past) ≡ false → error_taken header past ≡ None
    → absence_taken header past ≡ None
    → lock_taken past ≡ None → attributes_taken past ≡ None → destroy_taken past ≡ None → IsPaid header past
owes_nothing header past made down failed lacked unlocked unchanged kept =
    record {
      none_owed = made;
      init = λ h o k size ours is. never (sym down ∙ ap came_up is);
      create = λ h o k size ours is. never (sym down ∙ ap came_up is);
      request = λ h o k p access ours is. never (sym down ∙ ap came_up is);
      error = λ h o p is. absurd (cc);
      absence = λ h o p ours is. absurd (cc);
      lock = λ request is. no_request request past unlocked is;
      change = λ request is wanted. no_change request past unchanged is;
      destroy = λ h o wild is. absurd (none-some _ (sym kept ∙ is));
      slot = λ h o k p dirty keep bytes ours is lacks. never (sym down ∙ ap came_up is);
    }

-- an error that no step took ends nobody
pub ends_nobody : (header : Header) (past : List Event) → error_taken header past ≡ None → EndsAll header past
ends_nobody header past none h o p is task waits free = absurd (cc)

-- nobody waits in vain

no_access : {A : Type 0} (access : Access) → ◌≡◌ {A = Option Access} None (Some access) → A
no_access access is = absurd (cc)

-- there is one host
pub one_host : (header : Header) → length header.frames.items ≡ 1 → (past : List Event) → PromptAt header 0 past → Prompt header past
one_host header one past at zero below = at
one_host header one past at (suc h) below = absurd (omega (arith, below, one))

-- where nothing stands on an object none can be merged
pub bare_thin : (header : Header) (past : List Event) → ((o : ℕ) → (backing_of header o past).backed ≡ false) → IsThin header 0 past
bare_thin header past bare upper lower pair = let bad : false ≡ true = sym (bare upper) ∙ pair.backed in absurd (cc)

-- whichever way a test goes, nobody waits
pub neither : (b : Bool) → ◌≡◌ {A = Option Access} (if b then None else None) None
neither true = refl
neither false = refl

-- where nobody waits nobody waits in vain
pub nobody : (header : Header) → length header.frames.items ≡ 1 → (past : List Event) → ((task : ℕ) → waiting task past ≡ None) → IsSwept header 0 past
    → ((o : ℕ) → (backing_of header o past).backed ≡ false) → Prompt header past
nobody header one past none swept bare =
    one_host header one past
    (record {
      leads = λ t access is lives. no_access access (sym (none t) ∙ is);
      waits = λ t access waits on. no_access access (sym (none t) ∙ waits.waits);
      swept = swept;
      thin = bare_thin header past bare;
    })

-- nobody sleeps beside its page

-- where nobody waits
pub awake_idle : (header : Header) (past : List Event) → ((task : ℕ) → waiting task past ≡ None) → NoneSleeps header past
awake_idle header past none host known task sleeper = no_access sleeper.access (sym (none task) ∙ sleeper.waits.waits)

-- or where no page is here
pub awake_bare : (header : Header) → length header.frames.items ≡ 1 → (past : List Event)
    → ((object page : ℕ) → (page_on header 0 object page past).here ≡ false) → NoneSleeps header past
awake_bare header one past none zero known task sleeper = never (sym (none sleeper.object sleeper.page) ∙ sleeper.here)
awake_bare header one past none (suc host) known task sleeper = absurd (omega (arith, known, one))
