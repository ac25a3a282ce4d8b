mod QueuedWalk
