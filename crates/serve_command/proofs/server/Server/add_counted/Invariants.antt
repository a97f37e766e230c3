-- The lines of the first of them that are counted are kept.
use Rattle.std.proofs.Common.{◌≡◌, ◌++◌, codes, map, take}
use Rattle.cell_base.specs.Neighborhoods.{counted}
use Rattle.serve_command.specs.Answers.{item_line}
use Rattle.serve_command.specs.Walking.{IsBehind}
use Rattle.serve_command.proofs.server.Server.add_counted.Given as goal

abbrev pub invariant-loop-i : goal.invariant-loop-i
invariant-loop-i g l = record {
  kept : l.self ≡ record l.fn.self {
    replies = l.fn.self.replies
        ++ map (item_line l.fn.self.live.cell (codes "job")) (counted l.fn.self.live.cell (take l.i l.fn.self.live.parts) l.at.0);
  };
  behind : IsBehind l.fn.self.live.parts l.i l.before;
}
