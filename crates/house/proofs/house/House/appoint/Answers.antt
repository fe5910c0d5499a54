use Rattle.std.proofs.Common.{length, refl, ap, ◌∙◌, arith}
use Rattle.std.proofs.lemmas.List.{length-set}
use Rattle.house.specs.States.{state}
use Rattle.house.proofs.Appoints.{listed-length, appoint-room, appoint-done}
use Rattle.house.proofs.house.House.appoint.Goals as goal

pub invariant_of-self : goal.invariant_of-self
invariant_of-self g c =
    let h = c.args.self.now in
    let room = appoint-room g.B.Book.size g.B.Book.members_of c.args.group (state c.args.self.now c.args.replicas.now c.args.messages.now) c.in_ok-may_appoint.ensures in
    record {
      some = h.some;
      few = h.few;
      room = h.room;
      begun = omega arith;
      within = omega (arith, room, listed-length _ _ h.within h.whole);
      whole = ap length c.put.ensures ∙ length-set h.listed h.places c.args.group ∙ h.whole;
    }

pub returns : goal.returns
returns g c =
    let h = c.args.self.now in
    let s = state c.args.self.now c.args.replicas.now c.args.messages.now in
    let room = appoint-room g.B.Book.size g.B.Book.members_of c.args.group s c.in_ok-may_appoint.ensures in
    appoint-done g.B.Book.size g.B.Book.members_of c.args.group s c.in_ok-may_appoint.ensures
    h.listed c.put.new.rows h.places refl (omega (arith, room, h.whole, listed-length _ _ h.within h.whole)) c.put.ensures
