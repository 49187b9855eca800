-- The whole history with the slow copy is canonical.
use Rattle.std.proofs.Common.{Bool, List, None, Option, Some, [], ap, arith, false, inl, inr, refl, subst, suc, sym, true, zero, ℕ, ◌<◌, ◌∙◌, ◌∷◌, ◌≡◌, ◌≤◌}
use Rattle.std.proofs.lemmas.Bool.Decides.{nat_tests}
use Rattle.std.specs.Prelude.{◌==◌, ◌&&◌, ◌||◌, if◌then◌else◌}
use Rattle.vm_base.specs.declared.entry.Entry.{Entry}
use Rattle.vm_base.specs.declared.ids.Inherit.TheVariants.{Copy, Share}
use Rattle.vm_model.specs.declared.command.Command.TheVariants as command
use Rattle.vm_model.specs.declared.event.Event.{Event}
use Rattle.vm_model.specs.declared.event.Event.TheVariants as event
use Rattle.vm_model.specs.declared.message.Channel.{Channel}
use Rattle.vm_model.specs.declared.message.Channel.TheVariants.{Up, Down}
use Rattle.vm_model.specs.declared.message.Message.{Message}
use Rattle.vm_model.specs.declared.message.Message.TheVariants as message
use Rattle.vm_model.specs.Controls.{live_control}
use Rattle.vm_model.specs.Local.{CanRead, Elsewhere, Local, Raises, local_after}
use Rattle.vm_model.specs.Moments.{BeforeSteps, EachEvent, EachMoment}
use Rattle.vm_model.specs.PagePart.{page_part}
use Rattle.vm_model.specs.Server.{Wanting, first, line, trimmed_line}
use Rattle.vm_model.specs.Side.{side}
use Rattle.vm_model.specs.Words.{Act, Asking, Copies, EndsCopy, Nothing, OtherDown, OtherUp, SentDown, Supplying, TakenUp}
use Rattle.vm_model.specs.Waiting.{Access, Copying, waiting}
use Rattle.vm_model.specs.Regions.{backing_of}
use Rattle.vm_legal.specs.Accesses.{Waits}
use Rattle.vm_legal.specs.Bytes.{FlatBytes, OwnBytes}
use Rattle.vm_legal.specs.Debts.{IsPaid}
use Rattle.vm_legal.specs.Frames.{FramesSuffice}
use Rattle.vm_legal.specs.InTurn.{NoneSleeps, AllInTurn, AllRecalled, FollowsInTurn, StepIsInTurn}
use Rattle.vm_legal.specs.Serving.{HostsServed}
use Rattle.vm_legal.proofs.Serving.{one_served}
use Rattle.vm_legal.specs.Legal.{CanonicalFor}
use Rattle.vm_legal.specs.Licences.{HasCause}
use Rattle.vm_legal.proofs.Groups.{whole}
use Rattle.vm_legal.proofs.Turns.{follows_of}
use Rattle.vm_legal.specs.Outside.{is_shared}
use Rattle.vm_legal.specs.Prompt.{AllServed, AnAnswer, AtPlace, Prompt, PromptAt, WaitsForPager}
use Rattle.vm_legal.specs.Swept.{IsSwept, IsUnheld}
use Rattle.vm_legal.specs.Steps.{Letter, answers, error_taken, readies, since}
use Rattle.vm_legal.specs.Walks.{Reach, page_on}
use Rattle.vm_legal.proofs.Locks.{no_change, no_request}
use Rattle.vm_legal.proofs.Unshared.{temporary_unshared}
use Rattle.vm_quiet.proofs.Letters.{never}
use Rattle.vm_quiet.proofs.Unended.{nobody_awaited, others_hold}
use Rattle.vm_shared.proofs.Pages.{legal, writers}
use Rattle.vm_quiet.specs.Unended.{copied, down, filled, host, mapped, page, shared, task, up, zero_page}
use Rattle.vm_quiet.specs.Unended as unended
use Rattle.vm_worked.specs.Worked.{both, commands, header, history, outside}
use Rattle.vm_worked.proofs.Steps.{awake_bare, awake_idle, bare_thin, clash, ends_nobody, neither, nobody, number_is, one_host, one_suffices, owes_nothing}
use Rattle.vm_worked.proofs.Steps.{suffice}

-- the moments at which a step has ended

abbrev made : List Event
made = event.TaskMade task host ∷ event.Line 4 ∷ []

abbrev opened : List Event
opened = event.Sent up (message.Init 1 16) ∷ event.Entered task 0 16 mapped 0 both Share ∷ event.Line 5 ∷ made

abbrev settles : List Event
settles = event.Line 6 ∷ opened

abbrev readied : List Event
readied = event.Sent down (message.Ready false 0) ∷ event.Taken up (message.Init 1 16) ∷ settles

abbrev settled : List Event
settled = event.Taken down (message.Ready false 0) ∷ readied

abbrev asked : List Event
asked = event.Sent up (message.Request 1 page 1) ∷ event.RegionMade filled copied 1 ∷ event.BegunCopy task 0 16 32 ∷ event.Line 7 ∷ settled

abbrev settles_again : List Event
settles_again = event.Line 8 ∷ asked

abbrev supplied : List Event
supplied = event.Sent down (message.Supply page 2 false zero_page) ∷ event.Taken up (message.Request 1 page 1) ∷ settles_again

-- bytes and frames

own_bytes : EachEvent (OwnBytes header) history
own_bytes = (tt, (tt, (copies, (tt, (tt, (tt, (tt, (tt, (tt, (tt, (tt, (tt, (tt, (tt, (tt, (tt, (tt, (tt, (tt, (tt, tt))))))))))))))))))))
  where
    copies : OwnBytes header (event.CopiedPage task page shared page copied) (event.Taken down (message.Supply page 2 false zero_page) ∷ supplied)
    copies h lives =
        subst (λ (k : ℕ). CanRead (page_on header k 0 0 (event.Taken down (message.Supply page 2 false zero_page) ∷ supplied))) (number_is 0 h lives)
        (record { here = refl; unlocked = inr refl })

flat_bytes : EachEvent (FlatBytes header outside) history
flat_bytes = (tt, (tt, (tt, (tt, (tt, (tt, (tt, (tt, (tt, (tt, (tt, (tt, (tt, (tt, (tt, (tt, (tt, (tt, (tt, (tt, tt))))))))))))))))))))

frames : EachMoment (FramesSuffice header) history
frames = suffice header 4 (one_suffices header 4 refl) history refl

-- nothing is left behind

bare : (past : List Event) → ((o p : ℕ) → (page_on header 0 o p past).here ≡ false) → ((o : ℕ) → live_control 0 o past ≡ None) → IsSwept header 0 past
bare past pages controls =
    record {
      pages = λ o p ours unreached. pages o p;
      controls = λ o ours unreached. controls o;
      declared_pages = λ o p below unheld. pages o p;
      declared_controls = λ o below unheld. controls o;
    }

-- the task holds the shared object, and beside it there is nothing on the host to which no region leads
held : (past : List Event) → (IsUnheld header 0 0 past → ⊥)
    → ((o p : ℕ) → (0 == o) ≡ false → (Reach header 0 o past → ⊥) → (page_on header 0 o p past).here ≡ false)
    → ((o : ℕ) → (0 == o) ≡ false → live_control 0 o past ≡ None)
    → IsSwept header 0 past
held past holds pages controls =
    record {
      pages = λ o p ours unreached. pages o p (other o ours) unreached;
      controls = λ o ours unreached. controls o (other o ours);
      declared_pages = λ o p below unheld. absurd (holds (of_shared o below unheld));
      declared_controls = λ o below unheld. absurd (holds (of_shared o below unheld));
    }
  where
    other : (o : ℕ) → 1 ≤ o → (0 == o) ≡ false
    other o ours = grind (arith, nat_tests)

    of_shared : (o : ℕ) → o < 1 → IsUnheld header 0 o past → IsUnheld header 0 0 past
    of_shared o below unheld = let first : o ≡ 0 = omega (arith, below) in subst (λ (k : ℕ). IsUnheld header 0 k past) first unheld

nothing_opened : IsSwept header 0 opened
nothing_opened = held opened (λ unheld. clash (unheld.unmapped 0 refl)) (λ o p other unreached. rw other refl) (λ o other. rw other refl)

nothing_settles : IsSwept header 0 settles
nothing_settles = held settles (λ unheld. clash (unheld.unmapped 0 refl)) (λ o p other unreached. rw other refl) (λ o other. rw other refl)

nothing_readied : IsSwept header 0 readied
nothing_readied = held readied (λ unheld. clash (unheld.unmapped 0 refl)) (λ o p other unreached. rw other refl) (λ o other. rw other refl)

nothing_settled : IsSwept header 0 settled
nothing_settled = held settled (λ unheld. clash (unheld.unmapped 0 refl)) (λ o p other unreached. rw other refl) (λ o other. rw other refl)

nothing_asked : IsSwept header 0 asked
nothing_asked = held asked (λ unheld. clash (unheld.unmapped 0 refl)) (λ o p other unreached. rw other refl) (λ o other. rw other refl)

nothing_settles_again : IsSwept header 0 settles_again
nothing_settles_again = held settles_again (λ unheld. clash (unheld.unmapped 0 refl)) (λ o p other unreached. rw other refl) (λ o other. rw other refl)

nothing_supplied : IsSwept header 0 supplied
nothing_supplied = held supplied (λ unheld. clash (unheld.unmapped 0 refl)) (λ o p other unreached. rw other refl) (λ o other. rw other refl)

-- of other objects than the shared one and that of the filled region nothing is here
elsewhere : (o p : ℕ) → (0 == o) ≡ false → (1 == o) ≡ false → (page_on header 0 o p unended.history).here ≡ false
elsewhere o p other also =
    passes (1 == o) also (page_on header 0 o p (event.Taken down (message.Supply page 2 false zero_page) ∷ supplied)) zero_page (taken o p other)
  where
    taken : (q r : ℕ) → (0 == q) ≡ false → (page_on header 0 q r (event.Taken down (message.Supply page 2 false zero_page) ∷ supplied)).here ≡ false
    taken q r apart = rw apart refl

    passes : (b : Bool) → b ≡ false → (seen : Local) (bytes : List ℕ) → seen.here ≡ false
        → (local_after 16 (if b && (0 == p) then Raises bytes else Elsewhere) seen).here ≡ false
    passes true is seen bytes gone = absurd (clash is)
    passes false is seen bytes gone = gone

-- the copied page is here, and the region that was filled leads to it
nothing_left : IsSwept header 0 history
nothing_left = held history (λ unheld. clash (unheld.unmapped 0 refl)) pages (λ o other. rw other refl)
  where
    pages : (o p : ℕ) → (0 == o) ≡ false → (Reach header 0 o history → ⊥) → (page_on header 0 o p history).here ≡ false
    pages o p other unreached = by (1 == o) refl
      where
        by : (b : Bool) → (1 == o) ≡ b → (page_on header 0 o p history).here ≡ false
        by true is = absurd (unreached (subst (λ (k : ℕ). Reach header 0 k history) (number_is 1 o is) (1, 0, refl, refl)))
        by false is = elsewhere o p other is

-- nobody stands in line at the server whenever a step has ended

abbrev IsLineless : List Event → Type 0
IsLineless past = (p : ℕ) → line (page_part 16 0 p past) ≡ []

first_object : (o : ℕ) → is_shared header o ≡ true → 0 ≡ o
first_object zero is = refl
first_object (suc o) is = never (sym (temporary_unshared header (suc o) (omega arith)) ∙ is)

served : (past : List Event) → IsLineless past → AllServed header past
served past none o p is waits =
    absurd (waits (subst (λ (k : ℕ). line (page_part 16 k p past) ≡ []) (first_object o is) (none p)))

no_first : (wanting : List Wanting) (w : Wanting) → wanting ≡ [] → first wanting ≡ Some w → ⊥
no_first [] w none is = absurd (cc)
no_first (v ∷ more) w none is = absurd (cc)

recalls : (past : List Event) → IsLineless past → AllRecalled header past
recalls past none o p _ w is front way =
    absurd (no_first (line (page_part 16 o p past)) w (subst (λ (k : ℕ). line (page_part 16 k p past) ≡ []) (first_object o is) (none p)) front)

-- the page is asked and given in one step, if it is this one
abbrev answering : Bool → List Act → List Act
answering this past =
    record { host = 0; effect = SentDown 1 (if this then Supplying 2 false zero_page else OtherDown) }
    ∷ record { host = 0; effect = TakenUp (if this then Asking 1 1 else OtherUp) } ∷ past

answered : (this : Bool) (past : List Act) → line past ≡ [] → line (answering this past) ≡ []
answered true past none = rw none refl
answered false past none = rw none refl

-- and it is copied
copied_over : (this : Bool) (past : List Act) → line past ≡ [] → line (record { host = 0; effect = if this then Copies 0 else Nothing } ∷ past) ≡ []
copied_over true past none = rw none refl
copied_over false past none = rw none refl

-- and the copy ends
ended_over : (past : List Act) → line past ≡ [] → line (record { host = 0; effect = Nothing } ∷ record { host = 0; effect = EndsCopy 0 } ∷ past) ≡ []
ended_over past none = rw none refl

lineless_supplied : IsLineless supplied
lineless_supplied p = answered (0 == p) (page_part 16 0 p settles_again) refl

lineless_taken : IsLineless (event.Taken down (message.Supply page 2 false zero_page) ∷ supplied)
lineless_taken p = ap (trimmed_line 0 (side 0 (page_part 16 0 p (event.Taken down (message.Supply page 2 false zero_page) ∷ supplied))).holds)
    (lineless_supplied p)

lineless_now : IsLineless history
lineless_now p =
    ended_over (page_part 16 0 p unended.history)
    (copied_over (0 == p) (page_part 16 0 p (event.Taken down (message.Supply page 2 false zero_page) ∷ supplied)) (lineless_taken p))

lineless : BeforeSteps IsLineless history
lineless = (
  lineless_supplied,
  (λ p. refl, (λ p. refl, (λ p. refl, (λ p. refl, (λ p. refl, (λ p. refl, (λ p. refl, (λ p. refl, tt)))))))),
)

each_of : (P Q : List Event → Type 0) → ((past : List Event) → P past → Q past) → (history : List Event) → BeforeSteps P history → BeforeSteps Q history
each_of P Q of [] steps = tt
each_of P Q of (event.Line line ∷ past) steps = (of past steps.0, each_of P Q of past steps.1)
each_of P Q of (event.Taken channel m ∷ past) steps = (of past steps.0, each_of P Q of past steps.1)
each_of P Q of (e ∷ past) steps = each_of P Q of past steps

-- nobody waits in vain

ended : (b : Bool) → ◌≡◌ {A = Option Access} (if b then None else (if b then Some (Copying 0 16 32) else (if b then None else None))) None
ended true = refl
ended false = refl

-- the copy is the only access that waits
only : (t : ℕ) (access : Access) → (if 0 == t then Some (Copying 0 16 32) else (if 0 == t then None else None)) ≡ Some access → (0 ≡ t)
    × (Copying 0 16 32 ≡ access)
only t access is = by (0 == t) refl is
  where
    by : (b : Bool) → (0 == t) ≡ b → (if b then Some (Copying 0 16 32) else (if b then None else None)) ≡ Some access → (0 ≡ t) × (Copying 0 16 32 ≡ access)
    by true first e = (number_is 0 t first, let same : Copying 0 16 32 ≡ access = cc in same)
    by false other e = absurd (let bad : ◌≡◌ {A = Option Access} None (Some access) = e in cc)

-- it waits for the page of the shared object, which is asked
copying : (past : List Event) → ((t : ℕ) (access : Access) → waiting t past ≡ Some access → (0 ≡ t) × (Copying 0 16 32 ≡ access))
    → Waits header 0 (Copying 0 16 32) past → WaitsForPager header 0 0 (Copying 0 16 32) past
    → IsSwept header 0 past → ((o : ℕ) → (backing_of header o past).backed ≡ false) → PromptAt header 0 past
copying past one waits pager swept bare =
    record {
      leads = λ t access is lives. of (λ k a. Waits header k a past) t access (one t access is) waits;
      waits = λ t access w on. inl (of (λ k a. WaitsForPager header 0 k a past) t access (one t access w.waits) pager);
      swept = swept;
      thin = bare_thin header past bare;
    }
  where
    of : (P : ℕ → Access → Type 0) (t : ℕ) (access : Access) → (0 ≡ t) × (Copying 0 16 32 ≡ access) → P 0 (Copying 0 16 32) → P t access
    of P t access is p = subst (λ (k : ℕ). P k access) is.0 (subst (λ (a : Access). P 0 a) is.1 p)

abbrev entry : Entry
entry = record { address = 0; bytes = 16; region = mapped; offset = 0; prot = both; inherit = Share }

abbrev waits_asked : Waits header 0 (Copying 0 16 32) asked
waits_asked = record { waits = refl; at = record { host = 0; entry = entry; lives = refl; found = refl }; left = omega arith }

abbrev waits_settles_again : Waits header 0 (Copying 0 16 32) settles_again
waits_settles_again = record { waits = refl; at = record { host = 0; entry = entry; lives = refl; found = refl }; left = omega arith }

abbrev waits_supplied : Waits header 0 (Copying 0 16 32) supplied
waits_supplied = record { waits = refl; at = record { host = 0; entry = entry; lives = refl; found = refl }; left = omega arith }

prompt_asked : Prompt header asked
prompt_asked =
    one_host header refl asked
    (copying asked only waits_asked (record {
      waits = waits_asked;
      on_host = refl;
      what = AtPlace 0 0 (record { top = 0; top_page = 0; steps = 0; is_top = record { object = refl; page = refl }; leads = (refl, refl) }) (AnAnswer refl);
    })
    nothing_asked (λ o. refl))

prompt_settles_again : Prompt header settles_again
prompt_settles_again =
    one_host header refl settles_again
    (copying settles_again only waits_settles_again
    (record {
      waits = waits_settles_again;
      on_host = refl;
      what = AtPlace 0 0 (record { top = 0; top_page = 0; steps = 0; is_top = record { object = refl; page = refl }; leads = (refl, refl) }) (AnAnswer refl);
    })
    nothing_settles_again (λ o. refl))

prompt_supplied : Prompt header supplied
prompt_supplied =
    one_host header refl supplied
    (copying supplied only waits_supplied
    (record {
      waits = waits_supplied;
      on_host = refl;
      what = AtPlace 0 0 (record { top = 0; top_page = 0; steps = 0; is_top = record { object = refl; page = refl }; leads = (refl, refl) }) (AnAnswer refl);
    })
    nothing_supplied (λ o. refl))

prompts : BeforeSteps (Prompt header) history
prompts = (
  prompt_supplied,
  (
    prompt_settles_again,
    (
      prompt_asked,
      (
        nobody header refl settled (λ t. neither (0 == t)) nothing_settled (λ o. refl),
        (
          nobody header refl readied (λ t. neither (0 == t)) nothing_readied (λ o. refl),
          (
            nobody header refl settles (λ t. neither (0 == t)) nothing_settles (λ o. refl),
            (
              nobody header refl opened (λ t. neither (0 == t)) nothing_opened (λ o. refl),
              (
                nobody header refl made (λ t. neither (0 == t)) (bare made (λ o p. refl) (λ o. refl)) (λ o. refl),
                (nobody header refl [] (λ t. refl) (bare [] (λ o p. refl) (λ o. refl)) (λ o. refl), tt),
              ),
            ),
          ),
        ),
      ),
    ),
  ),
)

prompt_now : Prompt header history
prompt_now = nobody header refl history (λ t. ended (0 == t)) nothing_left (λ o. refl)

-- what steps owe

abbrev message_in : Option Letter → Option Message
message_in None = None
message_in (Some letter) = Some letter.message

abbrev object_up : Channel → ℕ
object_up (Up at object) = object.0
object_up (Down at object control) = 0

abbrev object_in : Option Letter → ℕ
object_in None = 0
object_in (Some letter) = object_up letter.channel

abbrev page_in : Message → ℕ
page_in (message.Request control at access) = at.0
page_in other = 0

abbrev asked_page : Option Letter → ℕ
asked_page None = 0
asked_page (Some letter) = page_in letter.message

abbrev told : Option Message
told = Some (message.Init 1 16)

abbrev demanded : Option Message
demanded = Some (message.Request 1 page 1)

-- the pager that was told of its object is ready
paid_readied : IsPaid header readied
paid_readied =
    record {
      none_owed = refl;
      init = λ h o k size ours is. subst (λ (x : ℕ). since (readies x) readied ≡ true) (ap object_in is) refl;
      create = λ h o k size ours is. no_create k size (ap message_in is);
      request = λ h o k p access ours is. no_request_in k p access (ap message_in is);
      error = λ h o p is. absurd (cc);
      absence = λ h o p ours is. absurd (cc);
      lock = λ request is. no_request request readied refl is;
      change = λ request is wanted. no_change request readied refl is;
      destroy = λ h o wild is. absurd (cc);
      slot = λ h o k p dirty keep bytes ours is lacks. no_return k p dirty keep bytes (ap message_in is);
    }
  where
    no_create : {A : Type 0} (k size : ℕ) → told ≡ Some (message.Create k size) → A
    no_create k size is = absurd (cc)

    no_request_in : {A : Type 0} (k p access : ℕ) → told ≡ Some (message.Request k (record { 0 = p }) access) → A
    no_request_in k p access is = absurd (cc)

    no_return : {A : Type 0} (k p : ℕ) (dirty keep : Bool) (bytes : List ℕ) → told ≡ Some (message.Return k (record { 0 = p }) dirty keep bytes) → A
    no_return k p dirty keep bytes is = absurd (cc)

-- the one that was asked for a page has answered
paid_supplied : IsPaid header supplied
paid_supplied =
    record {
      none_owed = refl;
      init = λ h o k size ours is. no_init k size (ap message_in is);
      create = λ h o k size ours is. no_create k size (ap message_in is);
      request =
          λ h o k p access ours is. subst (λ (x : ℕ). since (answers x p) supplied ≡ true) (ap object_in is)
          (subst (λ (y : ℕ). since (answers 0 y) supplied ≡ true) (ap asked_page is) refl);
      error = λ h o p is. absurd (cc);
      absence = λ h o p ours is. absurd (cc);
      lock = λ request is. no_request request supplied refl is;
      change = λ request is wanted. no_change request supplied refl is;
      destroy = λ h o wild is. absurd (cc);
      slot = λ h o k p dirty keep bytes ours is lacks. no_return k p dirty keep bytes (ap message_in is);
    }
  where
    no_init : {A : Type 0} (k size : ℕ) → demanded ≡ Some (message.Init k size) → A
    no_init k size is = absurd (cc)

    no_create : {A : Type 0} (k size : ℕ) → demanded ≡ Some (message.Create k size) → A
    no_create k size is = absurd (cc)

    no_return : {A : Type 0} (k p : ℕ) (dirty keep : Bool) (bytes : List ℕ) → demanded ≡ Some (message.Return k (record { 0 = p }) dirty keep bytes) → A
    no_return k p dirty keep bytes is = absurd (cc)

all_paid : BeforeSteps (IsPaid header) history
all_paid = (
  paid_supplied,
  (
    owes_nothing header settles_again refl refl refl refl refl refl refl,
    (
      owes_nothing header asked refl refl refl refl refl refl refl,
      (
        owes_nothing header settled refl refl refl refl refl refl refl,
        (
          paid_readied,
          (
            owes_nothing header settles refl refl refl refl refl refl refl,
            (
              owes_nothing header opened refl refl refl refl refl refl refl,
              (owes_nothing header made refl refl refl refl refl refl refl, (owes_nothing header [] refl refl refl refl refl refl refl, tt)),
            ),
          ),
        ),
      ),
    ),
  ),
)

paid_now : IsPaid header history
paid_now = owes_nothing header history refl refl refl refl refl refl refl

abbrev map_group : List Event
map_group = event.Sent up (message.Init 1 16) ∷ event.Entered task 0 16 mapped 0 both Share ∷ []

-- no error is taken, and all is done by the one host, or by nobody

own : (h : ℕ) → (0 == h) ≡ true → h ≡ 0
own h is = sym (number_is 0 h is)

made_own : (h : ℕ) → (0 == h || false) ≡ true → h ≡ 0
made_own h is = grind (arith, nat_tests)

nobodys : (h : ℕ) → false ≡ true → h ≡ 1
nobodys h is = absurd (cc)

in_turn : (past : List Event) → error_taken header past ≡ None → HostsServed header past → NoneSleeps header past → StepIsInTurn header past
in_turn past none served awake = record { ended = ends_nobody header past none; served = served; awake = awake }

-- while the page is asked nothing is here
away_asked : (o p : ℕ) → (page_on header 0 o p asked).here ≡ false
away_asked o p = by (0 == o) (0 == p) refl refl
  where
    by : (a b : Bool) → (0 == o) ≡ a → (0 == p) ≡ b → (page_on header 0 o p asked).here ≡ false
    by true true one two = rw (one, two) refl
    by true false one two = rw (one, two) refl
    by false b one two = rw one refl

away_again : (o p : ℕ) → (page_on header 0 o p settles_again).here ≡ false
away_again o p = away_asked o p

away_supplied : (o p : ℕ) → (page_on header 0 o p supplied).here ≡ false
away_supplied o p = away_asked o p

idle : (past : List Event) → ((b : Bool) → ◌≡◌ {A = Option Access} (if b then None else None) None)
    → ((task : ℕ) → waiting task past ≡ (if 0 == task then None else None)) → NoneSleeps header past
idle past none is = awake_idle header past (λ task. is task ∙ none (0 == task))

turn_supplied : StepIsInTurn header supplied
turn_supplied =
    in_turn supplied refl (one_served header 1 (event.Sent down (message.Supply page 2 false zero_page) ∷ [])
    (event.Taken up (message.Request 1 page 1) ∷ settles_again) tt refl (tt, tt) (nobodys, tt))
    (awake_bare header refl supplied away_supplied)

turn_asked : StepIsInTurn header asked
turn_asked =
    in_turn asked refl (one_served header 0 (event.Sent up (message.Request 1 page 1) ∷ event.RegionMade filled copied 1 ∷ event.BegunCopy task 0 16 32 ∷ [])
    (event.Line 7 ∷ settled) tt tt (tt, (tt, (tt, tt))) (own, (own, (own, tt))))
    (awake_bare header refl asked away_asked)

turn_readied : StepIsInTurn header readied
turn_readied =
    in_turn readied refl (one_served header 1 (event.Sent down (message.Ready false 0) ∷ []) (event.Taken up (message.Init 1 16) ∷ settles) tt refl (tt, tt)
    (nobodys, tt))
    (idle readied neither (λ task. refl))

turn_opened : StepIsInTurn header opened
turn_opened = in_turn opened refl (one_served header 0 map_group (event.Line 5 ∷ made) tt tt (tt, (tt, tt)) (own, (own, tt)))
    (idle opened neither (λ task. refl))

turn_now : StepIsInTurn header history
turn_now =
    in_turn history refl
    (one_served header 0 (event.Entered task 32 16 filled 0 both Copy ∷ event.CopyEnded task ∷ event.CopiedPage task page shared page copied ∷ [])
    (event.Taken down (message.Supply page 2 false zero_page) ∷ supplied) tt refl (tt, (tt, (tt, tt)))
    (own, (own, (own, tt))))
    (awake_idle header history (λ task. ended (0 == task)))

all_in_turn : BeforeSteps (StepIsInTurn header) history
all_in_turn = (
  turn_supplied,
  (
    in_turn settles_again refl (one_served header 0 [] settles_again tt tt tt tt) (awake_bare header refl settles_again away_again),
    (
      turn_asked,
      (
        in_turn settled refl (one_served header 0 [] settled tt refl tt tt) (idle settled neither (λ task. refl)),
        (
          turn_readied,
          (
            in_turn settles refl (one_served header 0 [] settles tt tt tt tt) (idle settles neither (λ task. refl)),
            (
              turn_opened,
              (
                in_turn made refl (one_served header 0 (event.TaskMade task host ∷ []) (event.Line 4 ∷ []) tt tt (tt, tt) (made_own, tt))
                    (idle made neither (λ task. refl)),
                (in_turn [] refl (one_served header 0 [] [] tt tt tt tt) (awake_idle header [] (λ task. refl)), tt),
              ),
            ),
          ),
        ),
      ),
    ),
  ),
)

-- each command has its group

map_in_turn : AllInTurn header outside (command.Map task 0 16 shared 0) map_group (event.Line 5 ∷ made)
map_in_turn = (
  (
    record {
      number = refl;
      sized = refl;
      declared = omega arith;
      none = refl;
      task = 0;
      address = 0;
      at = record { host = 0; entry = entry; lives = refl; found = refl };
      on_host = refl;
      region = refl;
    },
    tt,
  ),
  (
    (
      record {
        idle = refl;
        host = 0;
        lives = refl;
        whole = refl;
        inside = omega arith;
        made = omega arith;
        used = λ above. absurd (omega (arith, above));
        file = λ is. never is;
        unfilled = refl;
      },
      tt,
    ),
    tt,
  ),
)

abbrev ready_group : List Event
ready_group = event.Taken down (message.Ready false 0) ∷ event.Sent down (message.Ready false 0) ∷ event.Taken up (message.Init 1 16) ∷ []

ready_in_turn : AllInTurn header outside (command.Settle 100) ready_group settles
ready_in_turn = (((refl, (refl, omega arith)), tt), (((16, refl, refl, refl, refl), tt), (((refl, (refl, omega arith)), tt), tt)))

abbrev copy_group : List Event
copy_group = event.Sent up (message.Request 1 page 1) ∷ event.RegionMade filled copied 1 ∷ event.BegunCopy task 0 16 32 ∷ []

copy_in_turn : AllInTurn header outside (command.Copy task 0 16 task 32) copy_group (event.Line 7 ∷ settled)
copy_in_turn = (
  (
    record {
      task = 0;
      access = Copying 0 16 32;
      waits = record {
        waits = refl;
        at = record { host = 0; entry = entry; lives = refl; found = refl };
        left = omega arith;
      };
      on_host = refl;
      unmarked = λ store. refl;
      comes = record { top = 0; top_page = 0; steps = 0; is_top = record { object = refl; page = refl }; walks = (refl, refl) };
      number = refl;
      live = refl;
      ready = refl;
      away = refl;
      unasked = refl;
      known = refl;
    },
    tt,
  ),
  (((refl, refl), tt), ((refl, tt), tt)),
)

-- the page comes, and is copied; the copy ends, and right behind that stands the entry of what it filled
abbrev page_group : List Event
page_group =
    event.Entered task 32 16 filled 0 both Copy ∷
    event.CopyEnded task ∷
    event.CopiedPage task page shared page copied ∷
    event.Taken down (message.Supply page 2 false zero_page) ∷
    event.Sent down (message.Supply page 2 false zero_page) ∷
    event.Taken up (message.Request 1 page 1) ∷
    []

page_in_turn : AllInTurn header outside (command.Settle 100) page_group settles_again
page_in_turn = (
  (
    record {
      idle = refl;
      host = 0;
      lives = refl;
      whole = refl;
      inside = omega arith;
      made = omega arith;
      used = λ above. refl;
      file = λ is. never is;
      unfilled = refl;
    },
    refl,
  ),
  (
    (record { address = 0; bytes = 16; to = 32; waits = refl; all = refl }, tt),
    (
      (
        record {
          address = 0;
          bytes = 16;
          to = 32;
          waits = record {
            waits = refl;
            at = record { host = 0; entry = entry; lives = refl; found = refl };
            left = omega arith;
          };
          next = refl;
          declared = omega arith;
          supplied = refl;
          is_top = record { object = refl; page = refl };
          here = refl;
          region = 1;
          filled = refl;
          inside = omega arith;
          away = refl;
          unasked = refl;
        },
        tt,
      ),
      (
        ((refl, (refl, omega arith)), tt),
        (
          ((refl, refl, nobody_awaited, refl, (refl, refl, refl, others_hold)), tt),
          (((refl, (refl, omega arith)), tt), tt),
        ),
      ),
    ),
  ),
)

follows : FollowsInTurn header outside commands history
follows = (
  asked,
  page_group,
  refl,
  record { more = page_group; is = refl; follows = (refl, (tt, (tt, (tt, (tt, (tt, tt)))))); licensed = page_in_turn },
  inr refl,
  (
    settled,
    copy_group,
    refl,
    record { more = event.Sent up (message.Request 1 page 1) ∷ []; is = refl; follows = (tt, tt); licensed = copy_in_turn },
    tt,
    (
      opened,
      ready_group,
      refl,
      record { more = ready_group; is = refl; follows = (tt, (tt, (tt, tt))); licensed = ready_in_turn },
      inr refl,
      (
        made,
        map_group,
        refl,
        record { more = []; is = refl; follows = tt; licensed = map_in_turn },
        tt,
        ([], event.TaskMade task host ∷ [], refl, record { more = []; is = refl; follows = tt; licensed = ((tt, tt), tt) }, tt, refl),
      ),
    ),
  ),
)

causes : EachEvent (HasCause header outside) history
causes = whole header outside commands history (follows_of header outside commands history follows)

pub canonical : CanonicalFor header outside commands history
canonical =
    record {
      follows = follows;
      holds =
          record {
            own_bytes = own_bytes;
            flat_bytes = flat_bytes;
            frames = frames;
            prompt = prompts;
            paid = all_paid;
            served = each_of IsLineless (AllServed header) served history lineless;
            one_writer = writers header outside history causes own_bytes;
            pages = legal header outside history causes own_bytes;
          };
      rests = record { prompt = prompt_now; paid = paid_now; served = served history lineless_now };
      ended = all_in_turn;
      last = turn_now;
      recalled = each_of IsLineless (AllRecalled header) recalls history lineless;
      recalls = recalls history lineless_now;
    }
