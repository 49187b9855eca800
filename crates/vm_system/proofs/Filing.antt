-- What leaves the files' pagers, and the files.
use Rattle.vm_system.proofs.Apart.{IsAbout}
use Rattle.vm_system.proofs.Common.{AllFilesServe, Down, EachOf, Event, FileKept, FileTable, FilesCarry, Header, HostId, List, MayHave, Message, None}
use Rattle.vm_system.proofs.Common.{ObjectId, Option, SameAreas, Some, Told, Up, [], ap, false, false≢true, home_of, homes_stay, inl, inr, is_file}
use Rattle.vm_system.proofs.Common.{name_of, none-some, refl, sym, true, ℕ, ◌++◌, ◌∙◌, ◌∷◌, ◌≡◌, ◌≢◌}
use Rattle.pg_file.proofs.Carrying.{others_carry}
use Rattle.pg_file.proofs.Standing.{others}
use Rattle.pg_file.specs.Stands.{IsOther, PagerStands as FileStands}
use Rattle.vm_model.specs.declared.event.Event.TheVariants as event

-- who may have a file's pages might before
pub may_back : (host object : ℕ) (events past : List Event) → MayHave host object (events ++ past) → MayHave host object past
may_back host object events past may = by (home_of object past) refl may
  where
    by : (was : Option ℕ) → home_of object past ≡ was → MayHave host object (events ++ past) → MayHave host object past
    by None is may = inl is
    by (Some g) is (inl none) = absurd (none-some g (sym none ∙ homes_stay object g events past is))
    by (Some g) is (inr here) = inr (is ∙ sym (homes_stay object g events past is) ∙ here)

-- no file's pager has a part in what is about another object

about_other : (object : ℕ) (about : ObjectId) (e : Event) → IsAbout about e → about.0 ≢ object → IsOther object e
about_other object about (event.Sent (Down host o control) m) is apart = tt
about_other object about (event.Sent (Up host o) m) is apart = absurd is
about_other object about (event.DeviceFailed who way o page) is apart = λ same. apart (ap (λ (z : ObjectId). z.0) (sym is) ∙ same)
about_other object about (event.NoSlot o page) is apart = λ same. apart (ap (λ (z : ObjectId). z.0) (sym is) ∙ same)
about_other object about other is apart = absurd is

pub stands_about : (header : Header) (object : ℕ) (table : FileTable) (about : ObjectId) (events past : List Event) → EachOf (IsAbout about) events
    → about.0 ≢ object → FileStands header object table past → FileStands header object table (events ++ past)
stands_about header object table about [] past is apart stands = stands
stands_about header object table about (e ∷ events) past is apart stands =
    others header object table e (events ++ past) (about_other object about e is.0 apart) (stands_about header object table about events past is.1 apart stands)

pub kept_about : (size host object : ℕ) (start now : Option (List ℕ)) (about : ObjectId) (events past : List Event) → EachOf (IsAbout about) events
    → about.0 ≢ object → FileKept size host object start now past
    → FileKept size host object start now (events ++ past)
kept_about size host object start now about [] past is apart kept = kept
kept_about size host object start now about (e ∷ events) past is apart kept =
    others_carry size host object start now e (events ++ past) (about_other object about e is.0 apart)
    (kept_about size host object start now about events past is.1 apart kept)

-- nor in a message about an object that isn't a file, and what its pager answers

no_file_apart : (header : Header) (about : ObjectId) (object : ℕ) → is_file header about.0 ≡ false → is_file header object ≡ true → about.0 ≢ object
no_file_apart header about object none file same = absurd (false≢true (sym none ∙ ap (is_file header) same ∙ file))

pub files_about : (header : Header) (files : List FileTable) (host : HostId) (about : ObjectId) (m : Message) (events past : List Event)
    → EachOf (IsAbout about) events → is_file header about.0 ≡ false → AllFilesServe header files past
    → AllFilesServe header files (events ++ event.Taken (Up host about) m ∷ past)
files_about header files host about m events past is none serve = record {
  count = serve.count;
  stand = λ object pager file at.
      let apart = no_file_apart header about object none file in
      stands_about header object pager about events (event.Taken (Up host about) m ∷ past) is apart
      (others header object pager (event.Taken (Up host about) m) past apart (serve.stand object pager file at));
}

pub carry_about : (header : Header) (start areas : List ℕ → Told) (host : HostId) (about : ObjectId) (m : Message) (events past : List Event)
    → EachOf (IsAbout about) events → is_file header about.0 ≡ false → FilesCarry header start areas past
    → FilesCarry header start areas (events ++ event.Taken (Up host about) m ∷ past)
carry_about header start areas host about m events past is none carry = record {
  kept = λ object was file at.
      let had = carry.kept object was file at in
      let apart = no_file_apart header about object none file in
      let taken = event.Taken (Up host about) m in (
        had.0,
        had.1,
        λ g may.
            kept_about header.size g object was had.0 about events (taken ∷ past) is apart
            (others_carry header.size g object was had.0 taken past apart (had.2 g
            (may_back g object (taken ∷ []) past (may_back g object events (taken ∷ past) may)))),
      );
  others = carry.others;
}

-- the areas are as they were
pub carry_areas : (header : Header) (start before after : List ℕ → Told) (past : List Event) → SameAreas before after → FilesCarry header start before past
    → FilesCarry header start after past
carry_areas header start before after past same carry = record {
  kept = λ object was file is. let had = carry.kept object was file is in (had.0, same (name_of header object) had.0 had.1, had.2);
  others = λ name was none is. same name was (carry.others name was none is);
}
