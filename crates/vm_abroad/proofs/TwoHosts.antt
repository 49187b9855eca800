-- The worked run of two hosts meets the premises of the law: for host 0, what host 1 and its pager do is nothing.
use Rattle.std.proofs.Common.{◌≡◌, ℕ, zero, suc, ◌<◌, ◌≤◌, ◌==◌, Bool, true, false, List, [], ◌∷◌, ◌++◌, Some, None, refl, subst, arith, inl, inr}
use Rattle.std.proofs.lemmas.Bool.Decides.{nat_tests}
use Rattle.std.specs.Prelude.{if◌then◌else◌}
use Rattle.vm_base.specs.declared.entry.Entry.{Entry}
use Rattle.vm_base.specs.declared.ids.Inherit.TheVariants.{Copy}
use Rattle.vm_model.specs.declared.command.Command.{Command}
use Rattle.vm_model.specs.declared.command.Command.TheVariants as command
use Rattle.vm_model.specs.declared.event.Event.{Event}
use Rattle.vm_model.specs.declared.event.Event.TheVariants as event
use Rattle.vm_model.specs.declared.message.Channel.TheVariants.{Up}
use Rattle.vm_model.specs.declared.message.Message.TheVariants as message
use Rattle.vm_model.specs.Local.{is_on}
use Rattle.vm_model.specs.Moments.{EachEvent}
use Rattle.vm_model.specs.Named.{named}
use Rattle.vm_model.specs.Regions.{backing_of, region_of}
use Rattle.vm_model.specs.Rows.{AllRows}
use Rattle.vm_model.specs.Tasks.{entries_of}
use Rattle.vm_model.specs.Waiting.{Loading, Storing}
use Rattle.vm_legal.specs.Homes.{EntersNext, is_used}
use Rattle.vm_legal.specs.Licences.{Bottoms, Created, Creates, GivesBack, HasCause}
use Rattle.vm_legal.specs.Living.{lives_on}
use Rattle.vm_legal.specs.Stretches.{EachIn}
use Rattle.vm_legal.specs.Walks.{Below}
use Rattle.vm_abroad.specs.Run.{all, bytes, header, host, mapped, object, others, outside, paged_out, past, region, stored, task}
use Rattle.vm_abroad.specs.Sound.{IsAbroad, IsHeldOn, IsMade, IsObjectOf, IsRegionOf, Knows, Sound}
use Rattle.vm_abroad.proofs.Sounds.{both_left, sound_of, use_of}

abbrev settling : Command
settling = command.Settle 9

abbrev paging_out : Command
paging_out = command.Pageout (host 1) 1

abbrev taking : Command
taking = command.Take (Up (host 1) (object 1))

abbrev entry : ℕ → Entry
entry r = record { address = 64; bytes = 16; region = region r; offset = 0; prot = all; inherit = Copy }

-- the events in front

abbrev begun : List Event
begun =
    event.BegunLoad (task 0) 64 1 ∷ event.Line 4 ∷ event.Entered (task 0) 64 16 (region 0) 0 all Copy ∷ event.RegionMade (region 0) (object 0) 1 ∷ event.Line 3
    ∷ event.TaskMade (task 1) (host 1) ∷ event.Line 2 ∷ event.TaskMade (task 0) (host 0) ∷ event.Line 1 ∷ []

zeros_below : Bottoms header 0 0 0 begun
zeros_below = record {
  task = 0;
  access = Loading 64 1;
  waits = record { waits = refl; at = record { host = 0; entry = entry 0; lives = refl; found = refl }; left = tt };
  on_host = refl;
  temporary = omega arith;
  unmarked = λ is. refl;
  is_top = record { object = refl; page = refl };
  steps = 0;
  sinks = (record { away = refl; unasked = refl; without = refl }, refl);
  plain = λ depth below is. omega arith;
}

begun_caused : EachEvent (HasCause header outside) begun
begun_caused = (
  (settling, refl),
  (
    (settling, tt),
    (
      (
        settling,
        record {
          idle = refl;
          host = 0;
          lives = refl;
          whole = refl;
          inside = omega arith;
          made = omega arith;
          used = λ above. refl;
          file = λ is. refl;
          unfilled = refl;
        },
      ),
      ((settling, (refl, refl)), ((settling, tt), ((settling, tt), ((settling, tt), ((settling, tt), ((settling, tt), tt)))))),
    ),
  ),
)

past_caused : EachEvent (HasCause header outside) past
past_caused = (
  (
    settling,
    record {
      address = 64;
      bytes = 1;
      waits = record { waits = refl; at = record { host = 0; entry = entry 0; lives = refl; found = refl }; left = tt };
      comes = record { top = 0; top_page = 0; steps = 0; is_top = record { object = refl; page = refl }; walks = (refl, refl) };
      here = refl;
    },
  ),
  ((settling, inr zeros_below), begun_caused),
)

past_entered : EachEvent EntersNext past
past_entered = (
  (λ r is. is),
  (
    (λ r is. is),
    (
      (λ r is. is),
      (
        (λ r is. is),
        (
          (λ r is. both_left (r == 0) true is),
          ((λ r is. is), ((λ r is. is), ((λ r is. is), ((λ r is. is), ((λ r is. is), ((λ r is. is), tt)))))),
        ),
      ),
    ),
  ),
)

pub sound : Sound header past
sound = sound_of header outside past past_caused past_entered

-- what host 0's tables say

held_0 : IsHeldOn header 0 0 past
held_0 = record { task = 0; lives = refl; made = inr (inl refl); holds = inl refl }

none_made : (r : ℕ) → named header ≤ r → is_used header 0 r past ≡ true → 0 ≡ r
none_made r temporary used = let small : r < 1 = sound.made 0 r temporary (use_of header 0 r past used) in omega (arith, small)

on_0 : (n : ℕ) → lives_on 0 n past ≡ true → 0 ≡ n
on_0 n lives = by_first (1 == n) lives
  where
    by_second : (b : Bool) → (0 == n) ≡ b → is_on 0 (if b then Some 0 else None) ≡ true → 0 ≡ n
    by_second true is lives = grind (arith, nat_tests)
    by_second false is lives = absurd (let bad : false ≡ true = lives in cc)

    by_first : (b : Bool) → is_on 0 (if b then Some 1 else (if 0 == n then Some 0 else None)) ≡ true → 0 ≡ n
    by_first true lives = absurd (let bad : false ≡ true = lives in cc)
    by_first false lives = by_second (0 == n) refl lives

bare : (n u : ℕ) → Below (λ o. backing_of header o past) n 0 u → (u < 1) × IsObjectOf header 0 u past
bare zero u is = let top : 0 ≡ u = is in (omega (arith, top), subst (λ z. IsObjectOf header 0 z past) top (λ temporary. refl))
bare (suc n) u is = absurd (let bad : false ≡ true = is.0 in cc)

pub knows : Knows header 0 past
knows = record {
  held = λ r temporary used. subst (λ (z : ℕ). IsHeldOn header 0 z past) (none_made r temporary used) held_0;
  entries =
      λ n lives. subst (λ (z : ℕ). AllRows (λ row. IsRegionOf header 0 row.region.0 past) (entries_of header.size z past)) (on_0 n lives)
      ((λ temporary. refl), tt);
  chains =
      λ r small own. let first : 0 ≡ r = (let less : r < 1 = small in omega (arith, less)) in subst
      (λ (z : ℕ). IsMade header 0 (region_of header z past).top past) first bare;
}

-- what host 1 does, and its pager

abbrev abroad_0 : (e : Event) (before : List Event) → Type 0
abroad_0 e before = IsAbroad header outside 0 e before

mapped_abroad : EachIn abroad_0 mapped past
mapped_abroad = (
  record {
    cause = (
      settling,
      record {
        idle = refl;
        host = 1;
        lives = refl;
        whole = refl;
        inside = omega arith;
        made = omega arith;
        used = λ above. refl;
        file = λ is. refl;
        unfilled = refl;
      },
    );
    enters = λ r is. both_left (r == 1) true is;
    foreign = refl;
  },
  (
    record { cause = (settling, (refl, refl)); enters = λ r is. is; foreign = refl },
    (record { cause = (settling, tt); enters = λ r is. is; foreign = refl }, tt),
  ),
)

abbrev storing : List Event
storing = event.BegunStore (task 1) 64 1 9 ∷ event.Line 6 ∷ (mapped ++ past)

zeros_stored : Bottoms header 1 1 0 storing
zeros_stored = record {
  task = 1;
  access = Storing 64 1 9;
  waits = record { waits = refl; at = record { host = 1; entry = entry 1; lives = refl; found = refl }; left = tt };
  on_host = refl;
  temporary = omega arith;
  unmarked = λ is. refl;
  is_top = record { object = refl; page = refl };
  steps = 0;
  sinks = (record { away = refl; unasked = refl; without = refl }, refl);
  plain = λ depth below is. omega arith;
}

stored_abroad : EachIn abroad_0 stored past
stored_abroad = (
  record {
    cause = (
      settling,
      record {
        address = 64;
        waits = record { waits = refl; at = record { host = 1; entry = entry 1; lives = refl; found = refl }; left = tt };
        is_top = record { object = refl; page = refl };
        unmarked = refl;
        here = refl;
        place = refl;
        paid = λ copy owes. absurd (let bad : false ≡ true = owes.file in cc);
      },
    );
    enters = λ r is. is;
    foreign = refl;
  },
  (
    record { cause = (settling, inr zeros_stored); enters = λ r is. is; foreign = refl },
    (
      record { cause = (settling, refl); enters = λ r is. is; foreign = refl },
      (record { cause = (settling, tt); enters = λ r is. is; foreign = refl }, mapped_abroad),
    ),
  ),
)

abbrev paging : List Event
paging = event.Line 7 ∷ (stored ++ past)

creates : Creates header 1 1 1 16 paging
creates = record { number = refl; sized = refl; temporary = omega arith; never = refl; page = 0; here = refl }

returns : GivesBack header paging_out 1 1 1 0 true false bytes (event.Sent (Up (host 1) (object 1)) (message.Create 1 16) ∷ paging)
returns = record {
  live = refl;
  here = refl;
  due = refl;
  same = refl;
  flag = refl;
  why = Created 1 16 paging refl refl (record { spared = λ waits. absurd (let bad : false ≡ true = waits.unlocking in cc); may = inl (refl, omega arith, tt) });
}

paged_out_abroad : EachIn abroad_0 paged_out past
paged_out_abroad = (
  record { cause = (paging_out, returns); enters = λ r is. is; foreign = refl },
  (
    record { cause = (paging_out, creates); enters = λ r is. is; foreign = refl },
    (record { cause = (paging_out, tt); enters = λ r is. is; foreign = refl }, stored_abroad),
  ),
)

pub others_abroad : EachIn (IsAbroad header outside 0) others past
others_abroad = (
  record { cause = (taking, (16, refl, refl, inl (refl, refl))); enters = λ r is. is; foreign = refl },
  (
    record { cause = (taking, (refl, (refl, refl))); enters = λ r is. is; foreign = refl },
    (record { cause = (taking, tt); enters = λ r is. is; foreign = refl }, paged_out_abroad),
  ),
)
