mod Sessions
