use Rattle.house.specs.States.{state}
use Rattle.house.proofs.Posts.{post-full, post-done}
use Rattle.house.proofs.house.House.post.Goals as goal

pub returns-then-self-ge-MESSAGES : goal.returns-then-self-ge-MESSAGES
returns-then-self-ge-MESSAGES g c =
    post-full (state c.args.self.now c.args.replicas.now c.args.messages.now) c.args.message c.if-self-ge-MESSAGES.true

pub returns : goal.returns
returns g c =
    post-done (state c.args.self.now c.args.replicas.now c.args.messages.now) c.args.message c.put.new.rows
    c.if-self-ge-MESSAGES.false c.put.ensures
