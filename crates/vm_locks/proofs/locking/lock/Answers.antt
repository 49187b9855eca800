use Rattle.std.proofs.Common.{ℕ, ◌+◌, ◌≤◌, length, sym, arith}
use Rattle.vm_base.specs.declared.ids.HostId.{HostId}
use Rattle.vm_base.specs.declared.ids.ObjectId.{ObjectId}
use Rattle.vm_locks.specs.Obeys.{IsTold, LockState, Replies, Silent, lock_state}
use Rattle.vm_locks.specs.declared.request.LockRequest.{LockRequest}
use Rattle.vm_locks.proofs.locking.lock.Goals as goal

pub returns-clause-obeyed : goal.returns-clause-obeyed
returns-clause-obeyed g c =
    let held = g.L.Holder.held c.lock_pages.new.laundry in
    let room = g.L.Holder.room c.lock_pages.new.laundry in
    record {
      request = c.request_in-request.result;
      asks = c.request_in-request.ensures;
      known = c.in-Some.known;
      found = sym c.in-Some.ensures;
      done = lock_state c.lock_pages.new.parts held room c.lock_pages.new.log.items;
      pages = c.in_ok-lock_pages.ensures.obey;
      reply = c.in_ok-reply.ensures.replies c.lock_pages.new.parts held room;
    }

-- one reply at most
reply_told : (host : HostId) (object : ObjectId) (control : ℕ) (request : LockRequest) (old new : LockState) → Replies host object control request old new
    → length new.events ≤ length old.events + 1
reply_told host object control request old new (Silent none same) = rw same (omega arith)
reply_told host object control request old new (IsTold wanted is) = rw is (omega arith)

pub returns-clause-told : goal.returns-clause-told
returns-clause-told g c =
    let held = g.L.Holder.held c.lock_pages.new.laundry in
    let room = g.L.Holder.room c.lock_pages.new.laundry in
    let last = reply_told c.args.host c.args.object c.in-Some.known.control c.request_in-request.result _ _
    (c.in_ok-reply.ensures.replies c.lock_pages.new.parts held room) in
    let pages = c.in_ok-lock_pages.ensures.told in
    omega (arith, last, pages)
