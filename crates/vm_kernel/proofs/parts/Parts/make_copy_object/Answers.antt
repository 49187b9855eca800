use Rattle.vm_kernel.proofs.Common.{ObjectId, ObjectRow, Option, Parts, Some, arith, object_at, refl, some_is, subst, sym, ◌∙◌, ◌≡◌}
use Rattle.vm_kernel.proofs.space.CopyObjectMade.{put_beside, put_referred, stand_same}
use Rattle.vm_kernel.specs.Delaying.{MakesCopy, OnFile, Stands, Under, copy_row}
use Rattle.vm_kernel.proofs.parts.Parts.make_copy_object.Goals as goal

pub rebase-requires-clause-same : goal.rebase-requires-clause-same
rebase-requires-clause-same c =
    stand_same c.args.file c.in-Some-older.older c.args.copy c.requires.0 c.args.self.now c.stand.new.self c.requires.1
    (sym c.in_ok-older.ensures.before ∙ c.in-Some-older.is) c.in_ok-stand.ensures.ok

pub returns-in-Some-older-clause-makes : goal.returns-in-Some-older-clause-makes
returns-in-Some-older-clause-makes c = λ row can.
    let new : Parts = record c.args.self.now {
      memory = record c.args.self.now.memory { objects = c.refer-in-Some-older.new.self };
      chains = c.rebase.new.self;
      copies = c.begin.new.self;
    } in
    let known = c.in-Some.known in
    let known_is : object_at c.args.self.now.memory.objects c.args.file.0 ≡ Some known = sym c.find.ensures ∙ c.in-Some.is in
    let newest = sym c.in_ok-older.ensures.before ∙ c.in-Some-older.is in
    let put = put_referred c.args.copy.0 (copy_row known 1) c.args.self.now.memory.objects c.refer.new.self c.refer-in-Some-older.new.self
    (put_referred c.args.copy.0 (copy_row known 0) c.args.self.now.memory.objects c.make.new.self c.refer.new.self c.in_ok-make.ensures.ok
    c.refer.ensures.object) c.refer-in-Some-older.ensures.object in
    subst (λ (z : ObjectRow). MakesCopy c.args.file c.args.copy z c.args.self.now new) (some_is known row (sym known_is ∙ can.known))
    (record {
      same = refl;
      begins = record {
        put = c.in_ok-older.ensures.copy;
        had = c.in_ok-older.ensures.had;
        newest = c.in_ok-older.ensures.newest;
        living = c.in_ok-older.ensures.living;
      };
      stands = subst (λ (z : Option ObjectId). Stands c.args.file c.args.copy known c.args.self.now.chains c.rebase.new.self
          c.args.self.now.memory.objects c.refer-in-Some-older.new.self z) (sym newest)
          (Under c.in-Some-older.older c.stand.new.self c.in_ok-stand.ensures.ok c.rebase.ensures.rebases put);
      absent = record {
        at = λ o p. c.refer-in-Some-older.ensures.marks.at o p ∙ (c.refer.ensures.marks.at o p ∙ c.in_ok-make.ensures.marks.at o p);
      };
    })

pub returns-in-None-clause-makes : goal.returns-in-None-clause-makes
returns-in-None-clause-makes c = λ row can.
    let new : Parts = record c.args.self.now {
      memory = record c.args.self.now.memory { objects = c.refer-in-None.new.self };
      chains = c.stand.new.self;
      copies = c.begin.new.self;
    } in
    let known = c.in-Some.known in
    let known_is : object_at c.args.self.now.memory.objects c.args.file.0 ≡ Some known = sym c.find.ensures ∙ c.in-Some.is in
    let newest = sym c.in_ok-older.ensures.before ∙ c.in-None.is in
    let older = can.older in
    let put = put_referred c.args.copy.0 (copy_row known 0) c.args.self.now.memory.objects c.make.new.self c.refer.new.self c.in_ok-make.ensures.ok
    c.refer.ensures.object in
    let refers = put_beside c.args.copy.0 c.args.file.0 (Some (copy_row known 1)) known c.args.self.now.memory.objects c.refer.new.self c.refer-in-None.new.self
    put (λ same. omega (arith, same, older)) known_is c.refer-in-None.ensures.object in
    subst (λ (z : ObjectRow). MakesCopy c.args.file c.args.copy z c.args.self.now new) (some_is known row (sym known_is ∙ can.known))
    (record {
      same = refl;
      begins = record {
        put = c.in_ok-older.ensures.copy;
        had = c.in_ok-older.ensures.had;
        newest = c.in_ok-older.ensures.newest;
        living = c.in_ok-older.ensures.living;
      };
      stands = subst (λ (z : Option ObjectId). Stands c.args.file c.args.copy known c.args.self.now.chains c.stand.new.self c.args.self.now.memory.objects
          c.refer-in-None.new.self z) (sym newest)
          (OnFile c.in_ok-stand.ensures.ok c.refer.new.self put refers);
      absent = record {
        at = λ o p. c.refer-in-None.ensures.marks.at o p ∙ (c.refer.ensures.marks.at o p ∙ c.in_ok-make.ensures.marks.at o p);
      };
    })
