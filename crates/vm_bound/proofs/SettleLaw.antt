-- No event of a settle raises what it may still cause, and each taking lowers it.
use Rattle.std.proofs.Common.{ℕ, zero, ◌≡◌, ◌≤◌, ◌+◌, ◌*◌, List, [], ◌∷◌, ◌++◌, Bool, true, false, Option, None, Some, inl, inr, refl, sym, subst}
use Rattle.std.proofs.Common.{◌∙◌, arith, if◌then◌else◌}
use Rattle.std.specs.Prelude.{◌⊎◌, ◌&&◌, length, nat_lt, not}
use Rattle.vm_legal.proofs.Inside.{takings_more}
use Rattle.vm_bound.proofs.Balance.{balance, costs, debt_is, paid}
use Rattle.vm_bound.proofs.CreditLaw.{credit_law}
use Rattle.vm_bound.proofs.CreditTaken.{credit_taken}
use Rattle.vm_bound.proofs.Calm.{KeepsRegion, calm_next, calm_to_write_next, next_region_same}
use Rattle.vm_bound.proofs.AccessLaw.{access_law, access_taken}
use Rattle.vm_bound.proofs.PlaceLaw.{place_law, places_taken}
use Rattle.vm_bound.proofs.PlainSums.{copy_from_one}
use Rattle.vm_bound.proofs.Doomed.{IsDoomed, doomed_next, never_doomed}
use Rattle.vm_bound.proofs.Ending.{places_ended}
use Rattle.vm_bound.proofs.Going.{Going}
use Rattle.vm_bound.proofs.Grown.{Grown, before}
use Rattle.vm_bound.proofs.Growing.{grown_settle, whole_grown, whole_shut, steps_behind}
use Rattle.vm_bound.proofs.Stuck.{none_created}
use Rattle.vm_bound.proofs.Weights.{letters_counted}
use Rattle.vm_bound.proofs.Moving.{going_line, going_next, going_taken}
use Rattle.vm_bound.proofs.LeftLaw.{leaves, left_dues, left_law}
use Rattle.vm_bound.proofs.LetterLaw.{letters_sent, letters_taken}
use Rattle.vm_bound.proofs.LineLaw.{lines_law, sum_none}
use Rattle.vm_bound.proofs.Owing.{Follows, IsCalm, access_relief, debt, error_debt_of, inner_places, left_ends, place_gain, place_relief, potential}
use Rattle.vm_bound.proofs.PagesInside.{here_inside, wanted_inside}
use Rattle.vm_bound.proofs.Paying.{CreatesNone, credit, dues, joins, regains, replies}
use Rattle.vm_bound.proofs.SharedPlaces.{IsCalmToWrite}
use Rattle.vm_bound.proofs.SharedTakings.{Rests, calm_taken, calm_to_write_taken}
use Rattle.vm_bound.specs.Accesses.{accesses}
use Rattle.vm_bound.specs.Bound.{sum}
use Rattle.vm_bound.specs.Places.{places}
use Rattle.vm_bound.specs.Letters.{host_count, letter_weight, letters}
use Rattle.vm_bound.specs.Lines.{lines}
use Rattle.vm_bound.specs.Settles.{AllHaveFrames, CopyFromOne, HasEnded, IsOnHosts, IsOpening, IsSettle, MayCome}
use Rattle.vm_legal.specs.Bytes.{OwnBytes}
use Rattle.vm_legal.specs.Debts.{IsPaid}
use Rattle.vm_legal.specs.Follows.{Follows as AllFollow, IsDone}
use Rattle.vm_legal.specs.Undelivered.{undelivered}
use Rattle.vm_model.specs.declared.command.Numbered.{Numbered}
use Rattle.vm_shared.proofs.Currents.{copies_current}
use Rattle.vm_legal.specs.Licences.{AllLicensed, HasCause, Licensed, ReturnOn}
use Rattle.vm_legal.specs.Prompt.{Prompt}
use Rattle.vm_legal.specs.Steps.{Asked, Letter, error_taken, fails_access, since, takings}
use Rattle.vm_legal.specs.Outside.{NoneIsTemporary, Outside, is_wild}
use Rattle.vm_bound.proofs.LineStart.{line_accesses, line_places, none_at_line}
use Rattle.vm_legal.specs.Accesses.{At}
use Rattle.vm_bound.proofs.Writing.{waits_back, waits_on}
use Rattle.vm_bound.specs.Bound.{NoneWaitsOnWild}
use Rattle.vm_model.specs.Waiting.{Copying, address_of, next_page}
use Rattle.vm_legal.specs.Stretches.{EachIn, EachOf, IsInner, MomentsIn}
use Rattle.vm_model.specs.Moments.{BeforeSteps, EachEvent}
use Rattle.vm_model.specs.Named.{named}
use Rattle.vm_model.specs.Regions.{next_object}
use Rattle.vm_model.specs.declared.command.Command.TheVariants as command
use Rattle.vm_model.specs.declared.event.Event.{Event}
use Rattle.vm_model.specs.declared.event.Event.TheVariants as event
use Rattle.vm_model.specs.declared.message.Channel.{Channel}
use Rattle.vm_model.specs.declared.message.Message.{Message}
use Rattle.vm_model.specs.declared.script.Header.{Header}

-- an event has a cause in some command
pub follows_cause : (header : Header) (outside : Outside) (n : ℕ) (e : Event) (past : List Event) → Follows header outside n e past
    → EachEvent (HasCause header outside) (e ∷ past)
follows_cause header outside n e past follows = ((command.Settle n, follows.licensed.0), follows.causes)

-- the undelivered messages gain what is sent
letters_law : (header : Header) (e : Event) (past : List Event) → IsInner e → letters header (e ∷ past) ≤ letters header past + costs header e
letters_law header (event.Sent channel m) past inner = let more = letters_sent header channel m past in omega (arith, more)
letters_law header (event.Taken channel m) past inner = absurd inner
letters_law header e past inner = omega arith

-- the lines lose what the server sends
inner_lines : (header : Header) (outside : Outside) (n : ℕ) (e : Event) (past : List Event) → Follows header outside n e past
    → lines header (e ∷ past) + replies header e ≤ lines header past
inner_lines header outside n e past follows =
    let law = lines_law header outside e past (follows_cause header outside n e past follows) follows.own_bytes follows.hosts
    (wanted_inside header outside past follows.causes follows.own_bytes.1) in
    let none = joins_none header e follows.inner in
    omega (arith, law, none)
  where
    joins_none : (header : Header) (e : Event) → IsInner e → joins header e ≡ 0
    joins_none header (event.Taken channel m) inner = absurd inner
    joins_none header e inner = refl

-- the parts add up
added : (l l' n n' c c' d d' a a' p p' cost gain lv pg reply due ld ar pr t t' : ℕ) → l' ≤ l + cost → n' + reply ≤ n → c' + due ≤ c + gain → d' + ld ≤ d + lv
    → a' + ar ≤ a → p' + pr ≤ p + pg → cost + (gain + (lv + pg)) + 3 * lv ≤ reply + (due + (ld + (ar + pr))) → t ≤ t' + 3 * lv
    → l' + n' + (c' + d') + (a' + p') + t ≤ l + n + (c + d) + (a + p) + t'
added l l' n n' c c' d d' a a' p p' cost gain lv pg reply due ld ar pr t t' one two three four five six all debts =
    omega (arith, one, two, three, four, five, six, all, debts)

-- no event raises what may be caused, but by a debt
inner_law : (header : Header) (outside : Outside) (n : ℕ) (e : Event) (past : List Event) → Follows header outside n e past
    → accesses header (e ∷ past) + access_relief header e ≤ accesses header past
    → inner_places header (e ∷ past) + place_relief header e ≤ inner_places header past + place_gain header e past
    → potential header (e ∷ past) + debt header past ≤ potential header past + debt header (e ∷ past)
inner_law header outside n e past follows access place =
    added (letters header past) (letters header (e ∷ past)) (lines header past) (lines header (e ∷ past)) (credit header past) (credit header (e ∷ past))
    (left_ends header past) (left_ends header (e ∷ past)) (accesses header past) (accesses header (e ∷ past)) (inner_places header past)
    (inner_places header (e ∷ past)) (costs header e) (regains e) (leaves e) (place_gain header e past) (replies header e) (dues header e past)
    (left_dues header e) (access_relief header e) (place_relief header e) (debt header past) (debt header (e ∷ past))
    (letters_law header e past follows.inner) (inner_lines header outside n e past follows)
    (credit_law header outside n e past follows (here_inside header outside past follows.causes follows.own_bytes.1)) (left_law header outside n e past follows)
    access place (balance header outside n e past follows) (debt_is header e past follows.inner)

-- The taking.

-- nothing is left yet by slow copies
none_left_yet : (header : Header) (channel : Channel) (m : Message) (past : List Event) → left_ends header (event.Taken channel m ∷ past) ≡ 0
none_left_yet header channel m past =
    sum_none (host_count header) _ (λ h on. sum_none (next_object header past) _ (λ o made. by (not (nat_lt o (named header)))))
  where
    by : (b : Bool) → (if b && false then 1 else 0) ≡ zero
    by true = refl
    by false = refl

down : (l l' n n' c d a a' p p' w j t : ℕ) → l' + w ≡ l → n' + 0 ≤ n + j → c + j + 1 ≤ w → d ≡ 0 → a' ≤ a → p' ≤ p + t
    → l' + n' + (c + d) + (a' + p') + 1 ≤ l + n + (a + p) + t
down l l' n n' c d a a' p p' w j t one two three four five six = omega (arith, one, two, three, four, five, six)

-- the taking lowers it, but by a debt
taking_law : (header : Header) (outside : Outside) (n : ℕ) (channel : Channel) (m : Message) (past : List Event) → Rests header outside past
    → Licensed header outside (command.Settle n) (event.Taken channel m) past → IsOnHosts header (event.Taken channel m) past
    → accesses header (event.Taken channel m ∷ past) ≤ accesses header past
    → inner_places header (event.Taken channel m ∷ past) ≤ places header past + debt header (event.Taken channel m ∷ past)
    → potential header (event.Taken channel m ∷ past) + 1 ≤ sum header past + debt header (event.Taken channel m ∷ past)
taking_law header outside n channel m past rests licensed on_hosts access place =
    down (letters header past) (letters header (event.Taken channel m ∷ past)) (lines header past) (lines header (event.Taken channel m ∷ past))
    (credit header (event.Taken channel m ∷ past)) (left_ends header (event.Taken channel m ∷ past)) (accesses header past)
    (accesses header (event.Taken channel m ∷ past)) (places header past) (inner_places header (event.Taken channel m ∷ past))
    (letter_weight header (record { channel = channel; message = m })) (joins header (event.Taken channel m)) (debt header (event.Taken channel m ∷ past))
    (letters_taken header channel m past licensed.0.0)
    (lines_law header outside (event.Taken channel m) past ((command.Settle n, licensed.0), rests.causes) (tt, rests.own_bytes) (on_hosts, rests.hosts)
    (wanted_inside header outside past rests.causes rests.own_bytes)) (credit_taken header channel m past) (none_left_yet header channel m past) access place

-- where a step has ended there is no debt
paid_debt : (header : Header) (past : List Event) → IsPaid header past → debt header past ≡ 0
paid_debt header past paid = by (error_taken header past) refl
  where
    by : (asked : Option Asked) → error_taken header past ≡ asked → error_debt_of asked past ≡ 0
    by None is = refl
    by (Some asked) is = gone (since (fails_access asked.object asked.page) past) (paid.error asked.host asked.object asked.page is)
      where
        gone : (b : Bool) → b ≡ true → (if b then 0 else 3) ≡ zero
        gone true is = refl
        gone false is = absurd (let bad : false ≡ true = is in cc)

less : (l n c d a p p' : ℕ) → p ≤ p' → l + n + (a + p) ≤ l + n + (c + d) + (a + p')
less l n c d a p p' more = omega (arith, more)

-- what may be caused when a step has ended is what may be caused inside
ended_sum : (header : Header) (outside : Outside) (past : List Event) → EachEvent (HasCause header outside) past → IsPaid header past
    → sum header past ≤ potential header past
ended_sum header outside past causes paid =
    less (letters header past) (lines header past) (credit header past) (left_ends header past) (accesses header past) (places header past)
    (inner_places header past) (places_ended header outside past causes paid)

-- The whole settle.

-- a moment of a settle: what it may still cause and what it took are at most what it may have caused at the start, but for debts
record SoFar (header : Header) (most : ℕ) (past : List Event) : Type 0 where
  going : Going header past
  calm : IsCalm header past
  write : IsCalmToWrite header past
  copies : CopyFromOne header past
  lowered : (potential header past + takings past ≤ most + debt header past) ⊎ IsDoomed header past

-- what is known of the moments of a settle
record Moment (header : Header) (outside : Outside) (n : ℕ) (e : Event) (past : List Event) : Type 0 where
  grown : Grown header outside (e ∷ past)
  own_bytes : EachEvent (OwnBytes header) (e ∷ past)
  licensed : Licensed header outside (command.Settle n) e past
  may : MayCome e past
  creates : CreatesNone e
  frames : AllHaveFrames header past
  prompt : BeforeSteps (Prompt header) (e ∷ past)
  paid : BeforeSteps (IsPaid header) (e ∷ past)

followed : (header : Header) (outside : Outside) (n most : ℕ) (e : Event) (past : List Event) → Moment header outside n e past → IsInner e
    → Going header past → IsCalm header past → Follows header outside n e past
followed header outside n most e past moment inner going calm =
    record {
      causes = moment.grown.causes.1;
      own_bytes = moment.own_bytes;
      hosts = moment.grown.hosts;
      licensed = moment.licensed;
      may = moment.may;
      creates = moment.creates;
      inner = inner;
      going = going;
      frames = moment.frames;
      calm = calm;
    }

-- so the pages that a slow copy has left are on the region of the present one
keeps_of : (header : Header) (past : List Event) → CopyFromOne header past → KeepsRegion header past
keeps_of header past copies task address bytes to later entry waits from below found =
    copies task address bytes to later (next_page task past) entry waits.at.entry waits.waits below waits.left found waits.at.found

-- nobody comes to wait on a wild object
tame_next : (header : Header) (outside : Outside) (n : ℕ) (e : Event) (past : List Event) → Follows header outside n e past → KeepsRegion header past
    → NoneWaitsOnWild header past → NoneWaitsOnWild header (e ∷ past)
tame_next header outside n e past follows keeps tame task access waits =
    elim (waits_on header outside task access e past (command.Settle n, follows.licensed.0) follows.may follows.inner waits.waits) [
      | inl same ↦ tame task access (waits_back header task access past (e ∷ past) same waits)
      | inr on ↦
          subst (λ (k : ℕ). is_wild header k ≡ false) (sym (next_region_same header task access e past keeps on waits))
          (tame task (Copying on.cause.address on.cause.bytes on.cause.to) on.cause.waits)
    ]

goes_on : (k p p' t t' d d' : ℕ) → p + t ≤ k + d → p' + d ≤ p + d' → t' ≡ t → p' + t' ≤ k + d'
goes_on k p p' t t' d d' was less same = omega (arith, was, less, same)

stands_next : (header : Header) (outside : Outside) (n most : ℕ) (e : Event) (past : List Event) → NoneIsTemporary header → Moment header outside n e past
    → IsInner e → SoFar header most past → SoFar header most (e ∷ past)
stands_next header outside n most e past kinds moment inner so_far =
    record {
      going = going_next header outside n e past moment.grown moment.licensed moment.may moment.creates inner
          (tame_next header outside n e past follows keeps so_far.going.tame) so_far.going;
      calm = calm_next header outside n e past follows keeps;
      write = calm_to_write_next header outside n e past follows so_far.write;
      copies = copy_from_one header outside e past (command.Settle n, moment.licensed.0) moment.may.0 so_far.copies;
      lowered = elim so_far.lowered [
        | inl lowered ↦ elim (place_law header outside n e past kinds follows so_far.copies so_far.write) [
          | inl doomed ↦ inr doomed
          | inr place ↦ inl (goes_on most (potential header past) (potential header (e ∷ past)) (takings past) (takings (e ∷ past)) (debt header past)
              (debt header (e ∷ past)) lowered (inner_law header outside n e past follows (access_law header outside n e past follows keeps) place)
              (takings_more (e ∷ []) past (inner, tt)))
        ]
        | inr doomed ↦ inr (doomed_next header outside n e past follows doomed)
      ];
    }
  where
    follows : Follows header outside n e past
    follows = followed header outside n most e past moment inner so_far.going so_far.calm

    keeps : KeepsRegion header past
    keeps = keeps_of header past so_far.copies

goes_down : (k p p' t s d d' : ℕ) → p + t ≤ k + d → s ≤ p → d ≡ 0 → p' + 1 ≤ s + d' → p' + (t + 1) ≤ k + d'
goes_down k p p' t s d d' was less none down = omega (arith, was, less, none, down)

-- the moment at which a step ends, and the next taking
stands_taken : (header : Header) (outside : Outside) (n most : ℕ) (channel : Channel) (m : Message) (past : List Event) → NoneIsTemporary header
    → Moment header outside n (event.Taken channel m) past → SoFar header most past → SoFar header most (event.Taken channel m ∷ past)
stands_taken header outside n most channel m past kinds moment so_far =
    record {
      going = going_taken header outside channel m past ended so_far.going.tame;
      calm = calm_taken header outside channel m past rests;
      write = calm_to_write_taken header outside channel m past rests;
      copies = so_far.copies;
      lowered = inl (goes_down most (potential header past) (potential header (event.Taken channel m ∷ past)) (takings past) (sum header past) (debt header past)
          (debt header (event.Taken channel m ∷ past)) (undoomed so_far.lowered) (ended_sum header outside past moment.grown.causes.1 moment.paid.0)
          (paid_debt header past moment.paid.0)
          (taking_law header outside n channel m past rests moment.licensed moment.grown.hosts.0 (access_taken header outside n channel m past moment.licensed moment.grown.causes.1)
          (places_taken header outside n channel m past moment.licensed rests)));
    }
  where
    undoomed : (potential header past + takings past ≤ most + debt header past) ⊎ IsDoomed header past
        → potential header past + takings past ≤ most + debt header past
    undoomed (inl lowered) = lowered
    undoomed (inr doomed) = absurd (never_doomed header past moment.paid.0 doomed)

    ended : HasEnded header outside past
    ended =
        record {
          causes = moment.grown.causes.1;
          own_bytes = moment.own_bytes.1;
          hosts = moment.grown.hosts.1;
          prompt = moment.prompt.0;
          paid = moment.paid.0;
        }

    rests : Rests header outside past
    rests =
        record {
          causes = moment.grown.causes.1;
          own_bytes = moment.own_bytes.1;
          hosts = moment.grown.hosts.1;
          paid = moment.paid.1;
          prompt = moment.prompt.0;
          frames = moment.frames;
        }

-- each event
stands_event : (header : Header) (outside : Outside) (n most : ℕ) (e : Event) (past : List Event) → NoneIsTemporary header → Moment header outside n e past
    → SoFar header most past → SoFar header most (e ∷ past)
stands_event header outside n most (event.Taken channel m) past kinds moment so_far = stands_taken header outside n most channel m past kinds moment so_far
stands_event header outside n most (event.Line line) past kinds moment so_far = absurd moment.may.0
stands_event header outside n most e past kinds moment so_far = stands_next header outside n most e past kinds moment tt so_far

-- what is known of all moments of a settle
record Moments (header : Header) (outside : Outside) (n : ℕ) (group past : List Event) : Type 0 where
  grown : Grown header outside (group ++ past)
  own_bytes : EachEvent (OwnBytes header) (group ++ past)
  licensed : AllLicensed header outside (command.Settle n) group past
  may : EachIn MayCome group past
  creates : EachOf CreatesNone group
  frames : AllHaveFrames header past
  moments : MomentsIn (AllHaveFrames header) group past
  prompt : BeforeSteps (Prompt header) (group ++ past)
  paid : BeforeSteps (IsPaid header) (group ++ past)

frames_at : (header : Header) (group past : List Event) → AllHaveFrames header past → MomentsIn (AllHaveFrames header) group past
    → AllHaveFrames header (group ++ past)
frames_at header [] past frames moments = frames
frames_at header (e ∷ group) past frames moments = moments.0

moment_of : (header : Header) (outside : Outside) (n : ℕ) (e : Event) (group past : List Event) → Moments header outside n (e ∷ group) past
    → Moment header outside n e (group ++ past)
moment_of header outside n e group past all =
    record {
      grown = all.grown;
      own_bytes = all.own_bytes;
      licensed = all.licensed.0;
      may = all.may.0;
      creates = all.creates.0;
      frames = frames_at header group past all.frames all.moments.1;
      prompt = all.prompt;
      paid = all.paid;
    }

moments_before : (header : Header) (outside : Outside) (n : ℕ) (e : Event) (group past : List Event) → Moments header outside n (e ∷ group) past
    → Moments header outside n group past
moments_before header outside n e group past all =
    record {
      grown = before header outside e (group ++ past) all.grown;
      own_bytes = all.own_bytes.1;
      licensed = all.licensed.1;
      may = all.may.1;
      creates = all.creates.1;
      frames = all.frames;
      moments = all.moments.1;
      prompt = steps_behind (Prompt header) (e ∷ []) (group ++ past) all.prompt;
      paid = steps_behind (IsPaid header) (e ∷ []) (group ++ past) all.paid;
    }

stands_all : (header : Header) (outside : Outside) (n most : ℕ) (group past : List Event) → NoneIsTemporary header → Moments header outside n group past
    → SoFar header most past → SoFar header most (group ++ past)
stands_all header outside n most [] past kinds all so_far = so_far
stands_all header outside n most (e ∷ group) past kinds all so_far =
    stands_event header outside n most e (group ++ past) kinds (moment_of header outside n e group past all)
    (stands_all header outside n most group past kinds (moments_before header outside n e group past all) so_far)

-- From the line on.

-- what commands made has its causes
all_caused : (header : Header) (outside : Outside) (n : ℕ) (events past : List Event) → AllLicensed header outside (command.Settle n) events past
    → EachEvent (HasCause header outside) past → EachEvent (HasCause header outside) (events ++ past)
all_caused header outside n [] past licensed causes = causes
all_caused header outside n (e ∷ events) past licensed causes =
    ((command.Settle n, licensed.0.0), all_caused header outside n events past licensed.1 causes)

frames_line : (header : Header) (line : ℕ) (past : List Event) → AllHaveFrames header past → AllHaveFrames header (event.Line line ∷ past)
frames_line header line past frames task access waits = frames task access (record { waits = waits.waits; at = at; left = waits.left })
  where
    at : At header task (address_of header.size (next_page task past) access) past
    at = record { host = waits.at.host; entry = waits.at.entry; lives = waits.at.lives; found = waits.at.found }

starts : (l n n' d a a' p p' : ℕ) → n' + 0 ≤ n + 0 → d ≡ 0 → a' ≤ a → p' ≤ p → l + n' + (0 + d) + (a' + p') + 0 ≤ l + n + (a + p) + 0
starts l n n' d a a' p p' one two three four = omega (arith, one, two, three, four)

-- at a line nothing may be caused but what could be before
line_potential : (header : Header) (outside : Outside) (n line : ℕ) (past : List Event) → HasEnded header outside past
    → potential header (event.Line line ∷ past) + takings (event.Line line ∷ past) ≤ sum header past + debt header (event.Line line ∷ past)
line_potential header outside n line past ended =
    starts (letters header past) (lines header past) (lines header (event.Line line ∷ past)) (left_ends header (event.Line line ∷ past)) (accesses header past)
    (accesses header (event.Line line ∷ past)) (places header past) (inner_places header (event.Line line ∷ past))
    (lines_law header outside (event.Line line) past ((command.Settle n, tt), ended.causes) (tt, ended.own_bytes) (tt, ended.hosts)
    (wanted_inside header outside past ended.causes ended.own_bytes)) (none_at_line header line past) (line_accesses header line past)
    (line_places header line past)

at_end : (s p t k d : ℕ) → p + t ≤ k + d → s ≤ p → d ≡ 0 → s + t ≤ k
at_end s p t k d lowered less none = omega (arith, lowered, less, none)

nothing : (n s t most count : ℕ) → s + t ≤ most → t ≡ count → most ≤ count → n ≤ s → n ≤ 0
nothing n s t most count less all enough few = omega (arith, less, all, enough, few)

none_there : (all : List Letter) → length all ≤ 0 → all ≡ []
none_there [] few = refl
none_there (letter ∷ rest) few = absurd (omega (arith, few))

-- The law.

-- a settle that began where nobody waits on a wild object, and on whose hosts whoever waits has a free frame at each moment
pub settle_lowers : (header : Header) (outside : Outside) (commands : List Numbered) (count line : ℕ) (group past : List Event) → NoneIsTemporary header
    → AllFollow header outside commands past → HasEnded header outside past → IsOpening header past → IsSettle header outside count line group past
    → sum header (group ++ event.Line line ∷ past) + takings (group ++ event.Line line ∷ past) ≤ sum header past
settle_lowers header outside commands count line group past kinds follows ended opening settle =
    at_end (sum header (group ++ event.Line line ∷ past)) (potential header (group ++ event.Line line ∷ past)) (takings (group ++ event.Line line ∷ past))
    (sum header past) (debt header (group ++ event.Line line ∷ past)) (undoomed all.lowered)
    (ended_sum header outside (group ++ event.Line line ∷ past) moments.grown.causes settle.ends)
    (paid_debt header (group ++ event.Line line ∷ past) settle.ends)
  where
    begun : EachEvent (HasCause header outside) (event.Line line ∷ past)
    begun = ((command.Settle count, tt), ended.causes)

    causes : EachEvent (HasCause header outside) (group ++ event.Line line ∷ past)
    causes = all_caused header outside count group (event.Line line ∷ past) settle.licensed begun

    old_paid : BeforeSteps (IsPaid header) past
    old_paid = (steps_behind (IsPaid header) group (event.Line line ∷ past) settle.paid).1

    first_frames : AllHaveFrames header (event.Line line ∷ past)
    first_frames = frames_line header line past opening.frames

    moments : Moments header outside count group (event.Line line ∷ past)
    moments =
        record {
          grown = grown_settle header outside count line group past ended settle
              (copies_current header outside (group ++ event.Line line ∷ past) kinds causes settle.own_bytes) (whole_shut header outside commands past follows)
              (whole_grown header outside commands past follows old_paid ended.hosts (copies_current header outside past kinds ended.causes ended.own_bytes));
          own_bytes = settle.own_bytes;
          licensed = settle.licensed;
          may = settle.follows;
          creates = none_created header outside count group (event.Line line ∷ past) settle.licensed begun first_frames settle.frames
              (λ channel is. none_owed channel (sym settle.ends.none_owed ∙ is));
          frames = first_frames;
          moments = settle.frames;
          prompt = settle.prompt;
          paid = settle.paid;
        }
      where
        none_owed : (channel : Channel) → None ≡ Some (ReturnOn channel) → ⊥
        none_owed channel is = cc

    all : SoFar header (sum header past) (group ++ event.Line line ∷ past)
    all =
        stands_all header outside count (sum header past) group (event.Line line ∷ past) kinds moments (record {
          going = going_line header outside line past ended opening.tame;
          calm = λ request task access taken. absurd (cc);
          write = λ request task access taken. absurd (cc);
          copies = opening.copies;
          lowered = inl (line_potential header outside count line past ended);
        })

    undoomed : (potential header (group ++ event.Line line ∷ past) + takings (group ++ event.Line line ∷ past)
        ≤ sum header past + debt header (group ++ event.Line line ∷ past)) ⊎ IsDoomed header (group ++ event.Line line ∷ past)
        → potential header (group ++ event.Line line ∷ past) + takings (group ++ event.Line line ∷ past)
        ≤ sum header past + debt header (group ++ event.Line line ∷ past)
    undoomed (inl lowered) = lowered
    undoomed (inr doomed) = absurd (never_doomed header (group ++ event.Line line ∷ past) settle.ends doomed)

-- so where a settle went as far as it could, and could take as many as the sum says, nothing is undelivered
pub settle_ends : (header : Header) (outside : Outside) (commands : List Numbered) (count line : ℕ) (group past : List Event) → NoneIsTemporary header
    → AllFollow header outside commands past → HasEnded header outside past → IsOpening header past → IsSettle header outside count line group past
    → IsDone header (command.Settle count) group (event.Line line ∷ past) → sum header past ≤ count → undelivered (group ++ event.Line line ∷ past) ≡ []
settle_ends header outside commands count line group past kinds follows ended opening settle done enough = elim done [
  | inl all ↦
      none_there (undelivered (group ++ event.Line line ∷ past))
      (nothing (length (undelivered (group ++ event.Line line ∷ past))) (sum header (group ++ event.Line line ∷ past))
      (takings (group ++ event.Line line ∷ past)) (sum header past) count
      (settle_lowers header outside commands count line group past kinds follows ended opening settle) all enough
      (letters_counted header (group ++ event.Line line ∷ past)))
  | inr nothing_left ↦ nothing_left
]
